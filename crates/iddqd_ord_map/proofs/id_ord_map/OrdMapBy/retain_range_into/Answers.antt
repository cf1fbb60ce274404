use Rattle.iddqd_ord_map.proofs.id_ord_map.OrdMapBy.retain_range_into.Goals as goal

pub retain_range_into_by-requires-clause-asked : goal.retain_range_into_by-requires-clause-asked
retain_range_into_by-requires-clause-asked g c = rw (← c.self.view_is) at c.requires.asked

pub retain_range_into_by-requires-clause-given : goal.retain_range_into_by-requires-clause-given
retain_range_into_by-requires-clause-given g c = rw (← c.self.view_is) at c.requires.given

pub returns-clause-asked : goal.returns-clause-asked
returns-clause-asked g c = rw (← c.self.view_is) c.retain_range_into_by.ensures.asked

pub returns-clause-given : goal.returns-clause-given
returns-clause-given g c = rw (← c.self.view_is) c.retain_range_into_by.ensures.given

pub returns-clause-others : goal.returns-clause-others
returns-clause-others g c = rw (← c.self.view_is) c.retain_range_into_by.ensures.others
