use Rattle.iddqd_ord_map.proofs.id_ord_map.OrdMapBy.insert_all.Goals as goal

pub returns-clause-inserts : goal.returns-clause-inserts
returns-clause-inserts g c = rw (← c.self.view_is) c.insert_all.ensures.inserts

pub returns-clause-count : goal.returns-clause-count
returns-clause-count g c = rw (← c.self.view_is) c.insert_all.ensures.count

pub returns-clause-others : goal.returns-clause-others
returns-clause-others g c = rw (← c.self.view_is) c.insert_all.ensures.others

pub returns-clause-not_refused : goal.returns-clause-not_refused
returns-clause-not_refused g c = rw (← c.self.view_is) c.insert_all.ensures.not_refused
