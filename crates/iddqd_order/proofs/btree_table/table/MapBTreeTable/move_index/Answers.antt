use Rattle.iddqd_order.proofs.btree_table.table.MapBTreeTable.move_index.Goals as goal

pub move_index_reading-requires-clause-can_search : goal.move_index_reading-requires-clause-can_search
move_index_reading-requires-clause-can_search g c = c.requires.can_search

pub move_index_reading-requires-clause-enough : goal.move_index_reading-requires-clause-enough
move_index_reading-requires-clause-enough g c = c.requires.enough

pub move_index_reading-requires-clause-stored : goal.move_index_reading-requires-clause-stored
move_index_reading-requires-clause-stored g c = c.requires.stored

pub returns : goal.returns
returns g c = record { memory = c.move_index_reading.ensures.memory; asked = c.move_index_reading.ensures.asked; moved = c.move_index_reading.ensures.moved }
