use Rattle.std.proofs.Common.{◌≡◌, None, length, take, replicate}
use Rattle.iddqd_hash.specs.OpenTable.{slots_of}
use Rattle.iddqd_hash.proofs.open_table.cells.clear_cells.Given as goal

abbrev pub invariant-loop-at : goal.invariant-loop-at
invariant-loop-at g l =
    take l.at (slots_of g.C.Cell.slot (replicate (length l.fn.cells) 0) l.cells) ≡ replicate l.at None
