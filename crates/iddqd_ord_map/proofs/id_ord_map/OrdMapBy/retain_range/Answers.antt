use Rattle.iddqd_ord_map.proofs.id_ord_map.OrdMapBy.retain_range.Goals as goal

pub returns-clause-others : goal.returns-clause-others
returns-clause-others g c = rw (← c.self.view_is) c.retain_range_by.ensures.others
