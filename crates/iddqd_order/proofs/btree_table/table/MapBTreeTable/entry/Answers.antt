use Rattle.iddqd_order.proofs.btree_table.table.MapBTreeTable.entry.Goals as goal

pub returns : goal.returns
returns g c = record { made = c.make_entry.ensures.made; table = c.make_entry.ensures.table; same_reference = c.make_entry.ensures.same_reference }
