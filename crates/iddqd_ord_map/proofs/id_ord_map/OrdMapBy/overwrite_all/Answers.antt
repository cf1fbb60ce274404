use Rattle.iddqd_ord_map.proofs.id_ord_map.OrdMapBy.overwrite_all.Goals as goal

pub overwrite_all-requires-clause-given : goal.overwrite_all-requires-clause-given
overwrite_all-requires-clause-given g c = rw (← c.self.view_is) at c.requires.given

pub returns-clause-overwrites : goal.returns-clause-overwrites
returns-clause-overwrites g c = rw (← c.self.view_is) c.overwrite_all.ensures.overwrites

pub returns-clause-handed : goal.returns-clause-handed
returns-clause-handed g c = rw (← c.self.view_is) c.overwrite_all.ensures.handed

pub returns-clause-not_refused : goal.returns-clause-not_refused
returns-clause-not_refused g c = rw (← c.self.view_is) c.overwrite_all.ensures.not_refused
