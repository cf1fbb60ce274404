use Rattle.std.proofs.Common.{ℕ}
use Rattle.std.specs.Prelude.{filter}
use Rattle.iddqd_c.specs.Ranges.{along, lies_between}
use Rattle.iddqd_c.specs.Rows.{row_of}
use Rattle.iddqd_c.specs.declared.entry.Entry.{Entry}
use Rattle.iddqd_codes.proofs.FillLemmas.{IsFilled}
use Rattle.iddqd_c.proofs.keyed.ranges.fill.Given as goal

-- `range` has the entries that are left, of which those that lie between the ends are to be written
abbrev pub invariant-loop-at : goal.invariant-loop-at
invariant-loop-at l =
    IsFilled (λ (p : ℕ × Entry). row_of p.0 p.1) (filter (lies_between l.fn.from l.fn.to) (along l.fn.direction l.fn.range))
    (filter (lies_between l.fn.from l.fn.to) (along l.fn.direction l.range)) l.at l.fn.rows l.rows
