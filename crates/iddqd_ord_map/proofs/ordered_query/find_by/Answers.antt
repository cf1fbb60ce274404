use Rattle.std.specs.Ordering.{on}
use Rattle.iddqd_order.specs.MapBTreeTable.{order_of}
use Rattle.iddqd_by_order.proofs.ItemLemmas.{IsInSync-items}
use Rattle.iddqd_by_order.proofs.OrderedFindLemmas.{LooksUp-found}
use Rattle.iddqd_keys.specs.OrderedQuery.{IsQuery}
use Rattle.iddqd_map.specs.Ranges.{itself}
use Rattle.iddqd_ord_map.proofs.ordered_query.find_by.Goals as goal

pub returns : goal.returns
returns g c =
    let compare = on g.E.OrdKey.key_of g.E.OrdKey.cmp in
    let comparing = g.Q.ItemRangeQuery.compare_item c.args.query in
    let query : IsQuery compare comparing = record {
      fits = g.met.Q.ItemRangeQuery.fits c.args.query;
      one_key = g.met.Q.ItemOrdQuery.one_key c.args.query;
    } in
    let s = c.args.items.now.store in
    let order = order_of c.args.table.now in
    (LooksUp-found itself compare s order comparing query c.find.result c.find.ensures).as_scan
    (IsInSync-items g.E.OrdKey.key_of g.E.OrdKey.cmp s order c.requires.in_sync)
