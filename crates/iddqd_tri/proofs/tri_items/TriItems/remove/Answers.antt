use Rattle.iddqd_tri.specs.TriTables.{sized_tri_of}
use Rattle.iddqd_tri.proofs.TriCallLemmas.{IsTriState-taken}
use Rattle.iddqd_tri.proofs.TriCountLemmas.{count-taken, room-taken}
use Rattle.iddqd_tri.proofs.tri_items.TriItems.remove.Goals as goal

pub invariant_of-self : goal.invariant_of-self
invariant_of-self g c =
    let took = c.remove_item.ensures in
    IsTriState-taken _ c.self.inside.state c.self.inside.items c.remove_item.new.items c.self.inside.tables c.remove_item.new.tables c.args.ix c.remove_item.result
    took.value took.removed took.taken took.items_stay took.tables_stay c.self.invariant

pub returns-clause-state_after : goal.returns-clause-state_after
returns-clause-state_after g c =
    let took = c.remove_item.ensures in
    IsTriState-taken _ c.self.inside.state c.self.inside.items c.remove_item.new.items c.self.inside.tables c.remove_item.new.tables c.args.ix c.remove_item.result
    took.value took.removed took.taken took.items_stay took.tables_stay c.self.invariant

pub returns-clause-count : goal.returns-clause-count
returns-clause-count g c =
    let took = c.remove_item.ensures in
    rw (← c.self.view_is)
    (count-taken c.self.inside.items.store c.remove_item.new.items.store c.self.invariant.valid c.args.ix c.remove_item.result took.value took.removed)

pub returns-clause-room : goal.returns-clause-room
returns-clause-room g c =
    let took = c.remove_item.ensures in
    let whole = sized_tri_of c.self.inside.state c.self.inside.items c.self.inside.tables in
    let left = sized_tri_of c.self.inside.state c.remove_item.new.items c.remove_item.new.tables in
    rw (← c.self.view_is)
    (room-taken whole left c.args.ix c.remove_item.result took.removed took.memory
    (count-taken whole.state.store left.state.store c.self.invariant.valid c.args.ix c.remove_item.result took.value took.removed))
