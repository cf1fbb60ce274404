use Rattle.std.proofs.Common.{◌≡◌, ◌∙◌, ◌<◌, [], length, get_or, subst, arith, rules, inl, inr}
use Rattle.std.proofs.lemmas.List.{get_or_default}
use Rattle.std.proofs.lemmas.Bool.{cases_lt}
use Rattle.iddqd_layer.specs.Layer.{LeadsToGap}
use Rattle.iddqd_layer.specs.declared.way.Way.{Way}
use Rattle.iddqd_layer.proofs.ordered_keys.lead_to_gaps.Goals as goal

pub loop-i-preserved : goal.loop-i-preserved
loop-i-preserved c k t way lt =
    elim (cases_lt k c.loop-i.i) [
      | inl low ↦ c.loop-i.invariant k t way low
      | inr high ↦
          (let tables = c.args.tables.now in let ways = c.args.ways.now in
          let i = c.loop-i.i in
          let same : i ≡ k = omega arith in
          let within : i < length tables = search rules in
          let few : i < length ways = (let long = c.requires in omega arith) in
          let none : Way = (record { places = []; level = 0 }) in
          let table : c.index-tables-i.result ≡ get_or tables i t =
          c.index-tables-i.is ∙ get_or_default tables i c.index-tables-i.result t within in
          let here : LeadsToGap c.index-tables-i.result (get_or ways i none) =
          rw (c.descent.ensures, c.place.ensures) at c.in-Some.ensures.leaf in
          let there : LeadsToGap (get_or tables i t) (get_or ways i way) = subst (λ z.
          LeadsToGap z (get_or ways i way)) table
          (subst (λ z. LeadsToGap c.index-tables-i.result z) (get_or_default ways i none way few) here) in
          subst (λ z. LeadsToGap (get_or tables z t) (get_or ways z way)) same there)
    ]
