use Rattle.std.proofs.Common.{subst}
use Rattle.iddqd_maps.specs.InOrder.{IteratesInOrder}
use Rattle.iddqd_maps.specs.OrderedQuery.{is_equal}
use Rattle.uses.proofs.orders.all_and_group.Goals as goal

pub returns-clause-group : goal.returns-clause-group
returns-clause-group g c =
    subst (λ order. IteratesInOrder order (is_equal (g.X.OrderedAt.compare c.args.query)) c.args.map.now.store c.group_by.result)
    g.met.X.RangesAt.one_order c.group_by.ensures
