use Rattle.iddqd.proofs.LiveLemmas.{item_at}
use Rattle.iddqd_order.specs.MapBTreeTable.{order_of}
use Rattle.iddqd_ord_map.proofs.OrderedIndexingLemmas.{Sorts-removed}
use Rattle.iddqd_ord_map.proofs.by_order.ByOrderOfChanges.remove.Goals as goal

pub returns-clause-indexed : goal.returns-clause-indexed
returns-clause-indexed g c =
    let s = c.args.items.now.store in
    let (item, live) = item_at s c.args.ix c.requires.live in
    rw c.remove_live.ensures.taken (Sorts-removed _ _ s (order_of c.args.self.now.table) c.requires.indexed g.met.E.OrdKey.total c.args.ix item live)
