use Rattle.std.proofs.Common.{◌≡◌, ◌∙◌, length, refl, sym, ap, arith}
use Rattle.iddqd_layer.specs.Layer.{store_of}
use Rattle.iddqd_c.specs.Layers.{live_from}
use Rattle.iddqd_codes.proofs.FillLemmas.{IsFilled-start, IsFilled-step}
use Rattle.iddqd_c.proofs.LayerLemmas.{Fills-from, length_filled}
use Rattle.iddqd_c.proofs.layer.walks.list_live.Goals as goal

pub loop-at-init : goal.loop-at-init
loop-at-init c = IsFilled-start (λ n. n) (live_from c.args.from (store_of c.args.layer.now)) c.args.indexes.now

pub returns-in-None : goal.returns-in-None
returns-in-None c =
    let is = c.loop-at.invariant in
    let all = length_filled _ _ _ _ _ is in
    let none : length (live_from c.loop-at.next (store_of c.args.layer.now)) ≡ 0 =
    ap length (c.in-None.ensures.none refl) in
    Fills-from _ _ _ _ _ is (omega (arith, all, none, c.loop-at-test.true, c.loop-at.auto.indexes))

pub loop-at-preserved : goal.loop-at-preserved
loop-at-preserved c =
    IsFilled-step _ _ _ _ _ _ _ (rw c.in-Some.ensures.next at c.loop-at.invariant)
    (omega (arith, c.loop-at-test.true, c.loop-at.auto.indexes))

pub returns : goal.returns
returns c =
    let is = c.loop-at.invariant in
    let all = length_filled _ _ _ _ _ is in
    let long = c.loop-at.auto.indexes in
    let end : c.loop-at.at ≡ length c.args.indexes.now =
    omega (arith, c.loop-at.auto.at-end, c.loop-at-test.false, long) in
    rw (long ∙ sym end) (Fills-from _ _ _ _ _ is (omega (arith, all, end)))
