use Rattle.iddqd_map.proofs.FoundLemmas.{live_found}
use Rattle.iddqd_map.proofs.map.Map.replace_by.Goals as goal

pub replace_found-requires-clause-live : goal.replace_found-requires-clause-live
replace_found-requires-clause-live g c =
    live_found c.self.inside.items.store _ c.find-found.result.0 c.find-found.ensures.found

pub replace_found-requires-clause-known : goal.replace_found-requires-clause-known
replace_found-requires-clause-known g c = c.find-found.ensures.known

pub returns-clause-replaces : goal.returns-clause-replaces
returns-clause-replaces g c = rw (← c.self.view_is) (c.replace_found.ensures.replaces _ c.find-found.ensures.found)
