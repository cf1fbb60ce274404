use Rattle.iddqd_order.specs.MapBTreeTable.{order_of}
use Rattle.iddqd_by_order.proofs.ItemLemmas.{IsInSync-items}
use Rattle.iddqd_ord_map.proofs.ordered_query.take_by.Goals as goal

pub returns-clause-found : goal.returns-clause-found
returns-clause-found g c =
    c.take.ensures.found.as_scan (IsInSync-items g.E.OrdKey.key_of g.E.OrdKey.cmp c.args.items.now.store (order_of c.args.table.now) c.requires.in_sync)
