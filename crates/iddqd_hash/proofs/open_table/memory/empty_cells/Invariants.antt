use Rattle.std.proofs.Common.{◌≡◌, None, replicate, vec_len, vec_capacity}
use Rattle.iddqd_hash.specs.OpenTable.{slots_of}
use Rattle.iddqd_hash.proofs.open_table.memory.empty_cells.Given as goal

abbrev pub invariant-empty : goal.invariant-empty
invariant-empty g l =
    (slots_of g.C.Cell.slot (replicate l.count 0) l.cells.items ≡ replicate l.counter None)
    × (vec_len l.cells ≡ l.counter)
    × (vec_capacity l.cells ≡ l.count)
