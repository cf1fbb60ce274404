use Rattle.iddqd.proofs.LiveLemmas.{item_at}
use Rattle.iddqd_order.specs.MapBTreeTable.{order_of}
use Rattle.iddqd_ord_map.specs.SortedScanLaws.{IsSortedScan-kept}
use Rattle.iddqd_ord_map.proofs.ordered_steps.commit_move.Goals as goal

pub returns-in-Stays-clause-moved : goal.returns-in-Stays-clause-moved
returns-in-Stays-clause-moved g c =
    let s = c.args.items.now.store in
    let (was, live) = item_at s c.args.ix c.requires.live in
    let kept = rw c.in-Stays.is at c.requires.stays in
    IsSortedScan-kept g.E.OrdKey.key_of g.E.OrdKey.cmp g.met.E.OrdKey.total s (order_of c.args.table.now) c.requires.sorted c.args.ix c.args.item.now was live kept

pub relocate-requires-clause-enough : goal.relocate-requires-clause-enough
relocate-requires-clause-enough g c = rw c.in-Moves.is at c.requires.enough
