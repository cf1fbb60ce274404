use Rattle.std.proofs.Common.{◌≡◌, ◌≤◌, [], length, vec_len}
use Rattle.iddqd_hash.specs.OpenTable.{pairs, slots_of}
use Rattle.iddqd_hash.proofs.open_table.sizes.drop_empty_cells.Given as goal

abbrev pub invariant-dropping : goal.invariant-dropping
invariant-dropping g l = (pairs (slots_of g.C.Cell.slot l.tags l.cells.items) ≡ []) × (vec_len l.cells ≤ length l.tags)

abbrev pub decreases-dropping : goal.decreases-dropping
decreases-dropping g l = vec_len l.cells
