use Rattle.std.proofs.Common.{ap, ◌∙◌}
use Rattle.iddqd.proofs.LiveLemmas.{item_at}
use Rattle.iddqd_order.specs.MapBTreeTable.{order_of, without}
use Rattle.iddqd_ord_map.proofs.OrderedIndexingLemmas.{Sorts-removed}
use Rattle.iddqd_ord_map.proofs.by_order.ByOrderOfStepsAtHere.take_between.Goals as goal

pub returns-clause-indexed : goal.returns-clause-indexed
returns-clause-indexed g c =
    let s = c.args.items.now.store in
    let order = order_of c.args.self.now.table in
    let (item, live) = item_at s c.args.ix c.requires.live in
    rw (c.take_between.ensures.taken ∙ ap (without order) c.requires.stands.index) (Sorts-removed _ _ s order c.requires.indexed g.met.E.OrdKey.total c.args.ix item live)

pub returns-clause-next : goal.returns-clause-next
returns-clause-next g c = let is = c.take_between.ensures.next in rw c.requires.stands.index at is
