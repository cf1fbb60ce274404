use Rattle.std.proofs.Common.{◌≡◌, length, arith}
use Rattle.iddqd_c.specs.Mixing.{mixed}
use Rattle.iddqd_codes.proofs.FillLemmas.{IsFilled-start}
use Rattle.iddqd_c.proofs.LayerLemmas.{IsFilled-at, filled_all}
use Rattle.iddqd_c.proofs.layer.hashes.mix_each.Goals as goal

pub loop-at-init : goal.loop-at-init
loop-at-init c = IsFilled-start mixed c.args.hashes.now c.args.to.now

pub loop-at-preserved : goal.loop-at-preserved
loop-at-preserved c =
    rw c.mix.ensures
    (IsFilled-at mixed c.args.hashes.now c.loop-at.at c.args.to.now c.loop-at.to c.loop-at.invariant
    c.loop-at-test.true (omega (arith, c.loop-at-test.true, c.requires)))

pub returns : goal.returns
returns c =
    let end : c.loop-at.at ≡ length c.args.hashes.now = omega (arith, c.loop-at.auto.at-end, c.loop-at-test.false) in
    filled_all mixed c.args.hashes.now c.loop-at.at c.args.to.now c.loop-at.to c.loop-at.invariant end
