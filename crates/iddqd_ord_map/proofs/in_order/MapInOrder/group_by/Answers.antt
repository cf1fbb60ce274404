use Rattle.iddqd_ord_map.proofs.InOrderLemmas.{IteratesInOrder-group}
use Rattle.iddqd_ord_map.proofs.in_order.MapInOrder.group_by.Goals as goal

pub returns : goal.returns
returns g c =
    IteratesInOrder-group g.X.OrderedAt.order c.args.self.now.store (g.X.OrderedAt.compare c.args.query) c.range_by.result
    (rw c.only.ensures at c.range_by.ensures)
