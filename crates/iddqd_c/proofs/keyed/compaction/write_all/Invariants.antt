use Rattle.std.specs.Prelude.{drop}
use Rattle.iddqd.specs.Compaction.{numbers}
use Rattle.iddqd_c.specs.Compacting.{name_in}
use Rattle.iddqd_codes.proofs.FillLemmas.{IsFilled}
use Rattle.iddqd_c.proofs.keyed.compaction.write_all.Given as goal

abbrev pub invariant-loop-at : goal.invariant-loop-at
invariant-loop-at l =
    IsFilled (name_in l.fn.remap) (numbers l.fn.slots) (drop l.at (numbers l.fn.slots)) l.at l.fn.indexes l.indexes
