use Rattle.iddqd_ord_map.proofs.id_ord_map.OrdMapBy.modify_range.Goals as goal

pub returns-clause-modified : goal.returns-clause-modified
returns-clause-modified g c = rw (← c.self.view_is) c.modify_range_by.ensures.modified

pub returns-clause-counted : goal.returns-clause-counted
returns-clause-counted g c = rw (← c.self.view_is) c.modify_range_by.ensures.counted

pub returns-clause-others : goal.returns-clause-others
returns-clause-others g c = rw (← c.self.view_is) c.modify_range_by.ensures.others

pub returns-clause-memory : goal.returns-clause-memory
returns-clause-memory g c = rw (← c.self.view_is) c.modify_range_by.ensures.memory

pub returns-clause-room : goal.returns-clause-room
returns-clause-room g c = rw (← c.self.view_is) c.modify_range_by.ensures.room

pub returns-clause-count : goal.returns-clause-count
returns-clause-count g c = rw (← c.self.view_is) c.modify_range_by.ensures.count

pub modify_range_by-requires-clause-keeps : goal.modify_range_by-requires-clause-keeps
modify_range_by-requires-clause-keeps g c = rw (← c.self.view_is) at c.requires.keeps
