use Rattle.iddqd_ord_map.proofs.id_ord_map.OrdMapBy.remake.Goals as goal

pub returns-clause-remakes : goal.returns-clause-remakes
returns-clause-remakes g c = rw (← c.self.view_is) c.remake_by.ensures.remakes

pub returns-clause-unchanged : goal.returns-clause-unchanged
returns-clause-unchanged g c = rw (← c.self.view_is) c.remake_by.ensures.unchanged

pub returns-clause-room : goal.returns-clause-room
returns-clause-room g c = rw (← c.self.view_is) c.remake_by.ensures.room

pub returns-clause-count : goal.returns-clause-count
returns-clause-count g c = rw (← c.self.view_is) c.remake_by.ensures.count
