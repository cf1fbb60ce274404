use Rattle.iddqd.proofs.LiveLemmas.{item_at}
use Rattle.iddqd_order.specs.MapBTreeTable.{order_of}
use Rattle.iddqd_ord_map.specs.ByOrderLaws.{Sorts-scan, Sorts-apart}
use Rattle.iddqd_ord_map.proofs.ByOrderLemmas.{stays_by_key, HasDistinctKeys-planned}
use Rattle.iddqd_ord_map.proofs.by_order.ByOrderOfMoves.commit_move.Goals as goal

pub commit_move-requires-clause-sorted : goal.commit_move-requires-clause-sorted
commit_move-requires-clause-sorted g c = Sorts-scan _ _ c.args.items.now.store (order_of c.args.self.now.table) c.requires.indexed

pub commit_move-requires-clause-stays : goal.commit_move-requires-clause-stays
commit_move-requires-clause-stays g c =
    stays_by_key g.E.OrdKey.key_of g.E.OrdKey.cmp c.args.items.now.store c.args.ix c.args.item.now c.args.plan.now c.requires.planned

pub returns-clause-indexed : goal.returns-clause-indexed
returns-clause-indexed g c =
    let s = c.args.items.now.store in
    let (was, live) = item_at s c.args.ix c.requires.live in
    Sorts-apart _ _ _ _ c.commit_move.ensures.moved
    (HasDistinctKeys-planned g.E.OrdKey.key_of g.E.OrdKey.cmp g.met.E.OrdKey.total s (order_of c.args.self.now.table) c.requires.indexed c.args.ix c.args.item.now was live c.args.plan.now c.requires.planned)
