use Rattle.std.proofs.Common.{◌≡◌, arith}
use Rattle.iddqd.specs.Compaction.{numbers}
use Rattle.iddqd_c.specs.Compacting.{name_in}
use Rattle.iddqd_codes.proofs.FillLemmas.{IsFilled-start}
use Rattle.iddqd_c.proofs.CompactingLemmas.{IsFilled-number, filled_numbers}
use Rattle.iddqd_c.proofs.keyed.compaction.write_all.Goals as goal

pub loop-at-init : goal.loop-at-init
loop-at-init c = IsFilled-start (name_in c.args.remap.now) (numbers c.args.slots) c.args.indexes.now

pub loop-at-preserved : goal.loop-at-preserved
loop-at-preserved c =
    rw c.new_index.ensures
    (IsFilled-number (name_in c.args.remap.now) c.args.slots c.loop-at.at c.args.indexes.now c.loop-at.indexes
    c.loop-at.invariant c.loop-at-test.true (omega (arith, c.loop-at-test.true, c.requires.fits)))

pub returns : goal.returns
returns c =
    let end : c.loop-at.at ≡ c.args.slots = omega (arith, c.loop-at.auto.at-end, c.loop-at-test.false) in
    filled_numbers (name_in c.args.remap.now) c.args.slots c.loop-at.at c.args.indexes.now c.loop-at.indexes
    c.loop-at.invariant end
