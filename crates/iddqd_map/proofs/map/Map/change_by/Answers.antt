use Rattle.iddqd_map.proofs.FoundLemmas.{live_found, callable_found}
use Rattle.iddqd_map.proofs.map.Map.change_by.Goals as goal

pub change_found-requires-clause-live : goal.change_found-requires-clause-live
change_found-requires-clause-live g c =
    live_found c.self.inside.items.store _ c.find-found.result.0 c.find-found.ensures.found

pub change_found-requires-clause-callable : goal.change_found-requires-clause-callable
change_found-requires-clause-callable g c =
    callable_found g.F.FnOnce c.args.f c.self.inside.items.store _ c.find-found.result.0 c.find-found.ensures.found
    (rw (← c.self.view_is) at c.requires)

pub returns-clause-changes : goal.returns-clause-changes
returns-clause-changes g c = rw (← c.self.view_is) (c.change_found.ensures.changes _ c.find-found.ensures.found)
