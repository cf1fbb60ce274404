use Rattle.iddqd_groups.proofs.linked_table.indexes.LinkedIndexesIterator.size_hint.Goals as goal

pub returns-clause-upper : goal.returns-clause-upper
returns-clause-upper c = rw (← c.self.view_is) (tt, c.self.invariant.counted)
