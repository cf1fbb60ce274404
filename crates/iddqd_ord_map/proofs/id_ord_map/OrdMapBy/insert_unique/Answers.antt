use Rattle.iddqd_ord_map.proofs.id_ord_map.OrdMapBy.insert_unique.Goals as goal

pub returns-clause-inserts : goal.returns-clause-inserts
returns-clause-inserts g c = rw (← c.self.view_is) c.insert_unique.ensures.inserts

pub returns-clause-index : goal.returns-clause-index
returns-clause-index g c = rw (← c.self.view_is) c.insert_unique.ensures.index

pub returns-clause-stored : goal.returns-clause-stored
returns-clause-stored g c = rw (← c.self.view_is) c.insert_unique.ensures.stored

pub returns-clause-unchanged : goal.returns-clause-unchanged
returns-clause-unchanged g c = rw (← c.self.view_is) c.insert_unique.ensures.unchanged

pub returns-clause-count : goal.returns-clause-count
returns-clause-count g c = rw (← c.self.view_is) c.insert_unique.ensures.count

pub returns-clause-not_refused : goal.returns-clause-not_refused
returns-clause-not_refused g c = rw (← c.self.view_is) c.insert_unique.ensures.not_refused

pub returns-clause-room : goal.returns-clause-room
returns-clause-room g c = rw (← c.self.view_is) c.insert_unique.ensures.room

pub returns-clause-room_kept : goal.returns-clause-room_kept
returns-clause-room_kept g c = rw (← c.self.view_is) c.insert_unique.ensures.room_kept
