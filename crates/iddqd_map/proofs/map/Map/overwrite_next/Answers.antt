use Rattle.iddqd_map.proofs.map.Map.overwrite_next.Goals as goal

pub insert_or_displace-requires-clause-can_give : goal.insert_or_displace-requires-clause-can_give
insert_or_displace-requires-clause-can_give g c = rw (← c.self.view_is) at c.requires.can_give
