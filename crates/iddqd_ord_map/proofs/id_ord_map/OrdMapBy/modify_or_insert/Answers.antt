use Rattle.iddqd_ord_map.proofs.id_ord_map.OrdMapBy.modify_or_insert.Goals as goal

pub returns-clause-modifies : goal.returns-clause-modifies
returns-clause-modifies g c = rw (← c.self.view_is) c.modify_or_insert_by.ensures.modifies

pub returns-clause-inserts : goal.returns-clause-inserts
returns-clause-inserts g c = rw (← c.self.view_is) c.modify_or_insert_by.ensures.inserts

pub returns-clause-unchanged : goal.returns-clause-unchanged
returns-clause-unchanged g c = rw (← c.self.view_is) c.modify_or_insert_by.ensures.unchanged

pub returns-clause-not_refused : goal.returns-clause-not_refused
returns-clause-not_refused g c = rw (← c.self.view_is) c.modify_or_insert_by.ensures.not_refused

pub modify_or_insert_by-requires-clause-callable : goal.modify_or_insert_by-requires-clause-callable
modify_or_insert_by-requires-clause-callable g c = rw (← c.self.view_is) at c.requires.callable

pub modify_or_insert_by-requires-clause-keeps : goal.modify_or_insert_by-requires-clause-keeps
modify_or_insert_by-requires-clause-keeps g c = rw (← c.self.view_is) at c.requires.keeps
