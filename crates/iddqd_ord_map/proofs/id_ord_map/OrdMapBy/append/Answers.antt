use Rattle.iddqd_ord_map.proofs.id_ord_map.OrdMapBy.append.Goals as goal

pub returns-clause-appends : goal.returns-clause-appends
returns-clause-appends g c = rw (← c.self.view_is, ← c.other.view_is) c.append.ensures.appends

pub returns-clause-reported : goal.returns-clause-reported
returns-clause-reported g c = rw (← c.other.view_is) c.append.ensures.reported
