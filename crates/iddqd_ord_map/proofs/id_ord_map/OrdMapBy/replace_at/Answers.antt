use Rattle.iddqd_ord_map.proofs.id_ord_map.OrdMapBy.replace_at.Goals as goal

pub returns-clause-replaces : goal.returns-clause-replaces
returns-clause-replaces g c = rw (← c.self.view_is) c.replace_at.ensures.replaces

pub returns-clause-room : goal.returns-clause-room
returns-clause-room g c = rw (← c.self.view_is) c.replace_at.ensures.room

pub returns-clause-count : goal.returns-clause-count
returns-clause-count g c = rw (← c.self.view_is) c.replace_at.ensures.count
