use Rattle.std.proofs.Common.{arith}
use Rattle.std.specs.Fn.{TakesAt, CalledAt}
use Rattle.iddqd_map.specs.Map.{map_with}
use Rattle.iddqd_map.proofs.IntoLemmas.{MayGiveSome-gives}
use Rattle.iddqd_map.proofs.RetainLemmas.{MayAskInTurn-asks, RetainsTo-fewer, RetainsTo-room, same_memory}
use Rattle.iddqd_map.proofs.map.Map.retain_into.Goals as goal

pub retain_in-requires-clause-asked : goal.retain_in-requires-clause-asked
retain_in-requires-clause-asked g c =
    rw (← c.self.view_is) at (MayAskInTurn-asks (TakesAt g.F.FnMut) (CalledAt g.F.FnMut) _ _ c.requires.asked)

pub retain_in-requires-clause-given : goal.retain_in-requires-clause-given
retain_in-requires-clause-given g c = rw (← c.self.view_is) at (MayGiveSome-gives g.G.FnMut _ _ c.requires.given)

pub overflow_sub-result : goal.overflow_sub-result
overflow_sub-result g c =
    let fewer = RetainsTo-fewer (CalledAt g.F.FnMut) _ _ _ _ c.retain_in.ensures.retained in
    omega (arith, fewer, c.len.ensures, c.len-before.ensures)

pub returns-clause-room : goal.returns-clause-room
returns-clause-room g c =
    let capacity = g.X.KeyIndex.capacity in
    let cells = g.X.KeyIndex.cells in
    let table = c.self.inside.indexes in
    let left = c.retain_in.new.indexes in
    let did = c.retain_in.ensures in
    rw (← c.self.view_is)
    (RetainsTo-room (CalledAt g.F.FnMut) _
    (map_with c.self.inside.items (capacity table) (cells table))
    (map_with c.retain_in.new.items (capacity left) (cells left))
    _ did.retained (same_memory did.slots did.capacity did.cells))

pub returns-clause-count : goal.returns-clause-count
returns-clause-count g c =
    let fewer = RetainsTo-fewer (CalledAt g.F.FnMut) _ _ _ _ c.retain_in.ensures.retained in
    rw (← c.self.view_is) (omega (arith, fewer, c.len.ensures, c.len-before.ensures))
