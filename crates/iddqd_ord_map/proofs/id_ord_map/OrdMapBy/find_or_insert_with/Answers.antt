use Rattle.iddqd_ord_map.proofs.id_ord_map.OrdMapBy.find_or_insert_with.Goals as goal

pub returns-clause-found : goal.returns-clause-found
returns-clause-found g c = rw (← c.self.view_is) c.find_or_insert_with.ensures.found

pub returns-clause-inserts : goal.returns-clause-inserts
returns-clause-inserts g c = rw (← c.self.view_is) c.find_or_insert_with.ensures.inserts

pub returns-clause-unchanged : goal.returns-clause-unchanged
returns-clause-unchanged g c = rw (← c.self.view_is) c.find_or_insert_with.ensures.unchanged

pub returns-clause-not_refused : goal.returns-clause-not_refused
returns-clause-not_refused g c = rw (← c.self.view_is) c.find_or_insert_with.ensures.not_refused

pub find_or_insert_with-requires-clause-callable : goal.find_or_insert_with-requires-clause-callable
find_or_insert_with-requires-clause-callable g c = rw (← c.self.view_is) at c.requires.callable
