use Rattle.std.proofs.Common.{slice_index}
use Rattle.std.specs.Cmp.{on_total}
use Rattle.std.specs.Ordering.{on}
use Rattle.iddqd_order.specs.MapBTreeTable.{order_of, spot_place}
use Rattle.iddqd_order.specs.Spot.{StandsAt}
use Rattle.iddqd_by_order.proofs.ItemLemmas.{IsSortedScan-items}
use Rattle.iddqd_by_order.proofs.OrderedNextLemmas.{IfSome-same, IsLive-behind, IsNextHit-behind}
use Rattle.iddqd_by_order.specs.Ordered.{itself}
use Rattle.iddqd_by_order.proofs.ordered_next.take_between.Goals as goal

pub if_up_to-requires : goal.if_up_to-requires
if_up_to-requires g c =
    let did = c.take_at-next.ensures in
    IsLive-behind itself (on g.E.OrdKey.key_of g.E.OrdKey.cmp) (on_total g.E.OrdKey.key_of g.met.E.OrdKey.total) c.args.items.now.store (order_of c.args.table.now) (IsSortedScan-items g.E.OrdKey.key_of g.E.OrdKey.cmp c.args.items.now.store (order_of c.args.table.now) c.requires.sorted) (spot_place c.args.table.now c.args.spot.now) did.within c.take_at-next.result did.next

pub returns-clause-next : goal.returns-clause-next
returns-clause-next g c =
    let order = order_of c.args.table.now in
    let at = spot_place c.args.table.now c.args.spot.now in
    let did = c.take_at-next.ensures in
    c.if_up_to.ensures.next (slice_index order at) (IsNextHit-behind itself (on g.E.OrdKey.key_of g.E.OrdKey.cmp) (on_total g.E.OrdKey.key_of g.met.E.OrdKey.total) c.args.items.now.store order (IsSortedScan-items g.E.OrdKey.key_of g.E.OrdKey.cmp c.args.items.now.store order c.requires.sorted) at did.within c.take_at-next.result did.next)

pub returns-clause-spot : goal.returns-clause-spot
returns-clause-spot g c =
    IfSome-same (StandsAt c.take_at-next.new.self c.take_at-next.new.spot) c.take_at-next.result c.if_up_to.result c.if_up_to.ensures.same c.take_at-next.ensures.spot
