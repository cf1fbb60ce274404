use Rattle.iddqd_order.specs.Range.{indexes_ahead}
use Rattle.iddqd_ord_map.proofs.InOrderLemmas.{ListsInOrder-group}
use Rattle.iddqd_ord_map.proofs.ordered_parts.PartsOrderedParts.group.Goals as goal

pub returns : goal.returns
returns g c =
    ListsInOrder-group g.X.OrderedAt.order c.args.self (g.X.OrderedAt.compare c.args.query) (indexes_ahead c.range.result)
    (rw c.only.ensures at c.range.ensures)
