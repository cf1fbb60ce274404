use Rattle.iddqd_map.proofs.map.Map.find_by.Goals as goal

pub returns : goal.returns
returns g c = rw (← c.self.view_is) c.find-found.ensures.found
