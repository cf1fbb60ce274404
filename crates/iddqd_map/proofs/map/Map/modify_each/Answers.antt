use Rattle.std.proofs.Common.{refl, arith}
use Rattle.iddqd_map.specs.ModifyMany.{TakesMut, MayLeave}
use Rattle.iddqd_map.proofs.RetainLemmas.{MayAskInTurn-asks, same_memory}
use Rattle.iddqd_map.proofs.map.Map.modify_each.Goals as goal

pub modify_in-requires-clause-callable : goal.modify_in-requires-clause-callable
modify_in-requires-clause-callable g c =
    rw (← c.self.view_is) at (MayAskInTurn-asks (TakesMut g.F.FnMut) (MayLeave g.F.FnMut) _ _ c.requires.callable)

pub modify_in-requires-clause-keeps : goal.modify_in-requires-clause-keeps
modify_in-requires-clause-keeps g c = rw (← c.self.view_is) at c.requires.keeps

pub returns-clause-memory : goal.returns-clause-memory
returns-clause-memory g c = rw (← c.self.view_is) (same_memory c.modify_in.ensures.slots refl refl)

pub returns-clause-room : goal.returns-clause-room
returns-clause-room g c =
    let did = c.modify_in.ensures in
    rw (← c.self.view_is) (omega (arith, did.count, did.limit, did.slots))
