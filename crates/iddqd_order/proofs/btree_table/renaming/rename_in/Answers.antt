use Rattle.iddqd_order.proofs.btree_table.renaming.rename_in.Goals as goal

pub rename-requires-clause-can_remap : goal.rename-requires-clause-can_remap
rename-requires-clause-can_remap c = rw c.in-Some.is at c.requires.can_remap
