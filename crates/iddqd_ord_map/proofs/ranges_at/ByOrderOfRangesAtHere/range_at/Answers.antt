use Rattle.iddqd_order.specs.MapBTreeTable.{order_of}
use Rattle.iddqd_by_order.proofs.ItemLemmas.{IsInPlace-items}
use Rattle.iddqd_ord_map.proofs.ranges_at.ByOrderOfRangesAtHere.range_at.Goals as goal

pub returns : goal.returns
returns g c =
    let order = order_of c.args.self.now.table in
    let walk = c.range.ensures in
    let sorted = walk.in_place (IsInPlace-items g.E.OrdKey.key_of g.E.OrdKey.cmp c.args.items.now.store order c.requires.indexed.in_sync.placed) in
    record { hits = record { each = sorted.each; once = walk.once }; placed = sorted.placed }
