use Rattle.std.proofs.Common.{◌∙◌, ◌<◌, length, ap, sym, arith}
use Rattle.std.proofs.lemmas.Grind.{common_steps}
use Rattle.std.proofs.lemmas.List.{get_or_default}
use Rattle.std.specs.Fn.{FnReturnsAt}
use Rattle.iddqd_hash.proofs.RewriteLemmas.{Rewriting-start, Contains-to_rewrite, Rewriting-more, Rewrites-from_rewriting}
use Rattle.iddqd_hash.proofs.hash_table_reference.rewrite_pairs.Goals as goal

pub loop-at-init : goal.loop-at-init
loop-at-init g c = Rewriting-start _ _

pub f-value-requires : goal.f-value-requires
f-value-requires g c =
    let here =
    Contains-to_rewrite _ _ _ _ _ c.loop-at.auto.pairs c.loop-at-test.true c.index-pairs-at.is c.loop-at.invariant in
    c.requires _ (rw (← c.index-pairs-at.is) here)

pub loop-at-preserved : goal.loop-at-preserved
loop-at-preserved g c =
    let within : c.loop-at.at < length c.loop-at.pairs = omega arith in
    let read_again =
    get_or_default c.loop-at.pairs c.loop-at.at c.index-pairs-at.result c.index-pairs-at-in-loop-at.result within
    ∙ sym c.index-pairs-at-in-loop-at.is in
    let given : FnReturnsAt g.F.Fn c.args.f c.index-pairs-at-in-loop-at.result.1 c.f-value.result =
    record { shown = _; shows = ap (λ e. e.1) read_again; says = record { met = c.f-value.ensures } } in
    rw (← c.index-pairs-at-in-loop-at.is) (Rewriting-more _ _ _ _ _ c.loop-at.auto.pairs c.loop-at-test.true c.index-pairs-at-in-loop-at.is c.loop-at.invariant _ given)

pub returns : goal.returns
returns g c = Rewrites-from_rewriting _ _ _ c.loop-at.at c.loop-at.auto.pairs (omega arith) c.loop-at.invariant

pub offset_bounds-pairs-at-in-loop-at : goal.offset_bounds-pairs-at-in-loop-at
offset_bounds-pairs-at-in-loop-at g c = grind (arith, common_steps)

pub offset_bounds-pairs-at : goal.offset_bounds-pairs-at
offset_bounds-pairs-at g c = grind (arith, common_steps)
