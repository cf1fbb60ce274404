use Rattle.std.proofs.Common.{arith}
use Rattle.iddqd_hash.proofs.OpenCellLemmas.{cells_long}
use Rattle.iddqd_hash.proofs.OpenTableLemmas.{entries-table_of}
use Rattle.iddqd_hash.proofs.open_table.OpenHashTable.destroy_empty.Goals as goal

pub drop_empty_cells-requires-clause-same_length : goal.drop_empty_cells-requires-clause-same_length
drop_empty_cells-requires-clause-same_length g c =
    rw c.as_slice.ensures.value (omega (arith, cells_long g.C.Cell.slot c.self.inside.tags.items c.self.inside.cells.items, c.self.invariant.sound.probed.same_length))

pub drop_empty_cells-requires-clause-empty : goal.drop_empty_cells-requires-clause-empty
drop_empty_cells-requires-clause-empty g c =
    rw c.as_slice.ensures.value (rw (← c.self.view_is, entries-table_of) at c.requires)
