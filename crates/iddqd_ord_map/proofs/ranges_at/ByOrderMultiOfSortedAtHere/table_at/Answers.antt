use Rattle.iddqd_order.specs.MapBTreeTable.{order_of}
use Rattle.iddqd_by_order.proofs.ItemLemmas.{IsSortedScan-items}
use Rattle.iddqd_ord_map.proofs.ranges_at.ByOrderMultiOfSortedAtHere.table_at.Goals as goal

pub returns : goal.returns
returns g c =
    let s = c.args.items.now.store in
    let order = order_of c.args.self.now.table in
    IsSortedScan-items g.E.OrdKey.key_of g.E.OrdKey.cmp s order c.requires.indexed
