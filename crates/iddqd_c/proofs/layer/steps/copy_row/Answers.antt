use Rattle.std.proofs.Common.{◌≡◌, ◌∙◌, length, inl, refl, arith}
use Rattle.std.proofs.lemmas.Grind.{get_or_default_zero}
use Rattle.iddqd_codes.proofs.FillLemmas.{IsFilled-start}
use Rattle.iddqd_c.proofs.LayerLemmas.{IsFilled-at, copied_all}
use Rattle.iddqd_c.proofs.layer.steps.copy_row.Goals as goal

pub loop-at-init : goal.loop-at-init
loop-at-init c = IsFilled-start (λ n. n) c.args.items.now c.args.row.now

pub loop-at-preserved : goal.loop-at-preserved
loop-at-preserved c =
    let is = c.as_u32.ensures ∙ c.index-items-at.is ∙ get_or_default_zero _ _ _ c.loop-at-test.true in
    rw is
    (IsFilled-at (λ n. n) c.args.items.now c.loop-at.at c.args.row.now c.loop-at.row c.loop-at.invariant
    c.loop-at-test.true (omega (arith, c.loop-at-test.true, c.if-row-items.false)))

pub returns-clause-copies : goal.returns-clause-copies
returns-clause-copies c =
    let end : c.loop-at.at ≡ length c.args.items.now = omega (arith, c.loop-at.auto.at-end, c.loop-at-test.false) in
    let filled = copied_all c.args.items.now c.loop-at.at c.args.row.now c.loop-at.row c.loop-at.invariant end in
    (refl, inl (refl, omega (arith, c.if-row-items.false), filled))
