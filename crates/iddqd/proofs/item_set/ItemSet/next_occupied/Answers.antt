use Rattle.std.proofs.Common.{◌≡◌, None, subst, inl, inr, arith, rules}
use Rattle.std.proofs.lemmas.Grind.{common_steps}
use Rattle.std.proofs.lemmas.Bool.{cases_lt}
use Rattle.iddqd.specs.Store.{get}
use Rattle.iddqd.proofs.StoreLemmas.{none_where_not_live}
use Rattle.iddqd.proofs.item_set.ItemSet.next_occupied.Goals as goal

pub loop-at-preserved : goal.loop-at-preserved
loop-at-preserved g c other low below =
    let s = c.args.self.now.store in
    let none : get s c.loop-at.at ≡ None = none_where_not_live s c.loop-at.at (search rules) in
    elim (cases_lt other c.loop-at.at) [
      | inl before ↦ c.loop-at.invariant other low before
      | inr past ↦ let same : c.loop-at.at ≡ other = omega (arith, past, below) in subst (λ i. get s i ≡ None) same none
    ]

pub returns-then-is_live : goal.returns-then-is_live
returns-then-is_live g c = grind (arith, common_steps)
