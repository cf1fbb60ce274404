use Rattle.std.proofs.Common.{true, sym, subst}
use Rattle.iddqd_order.specs.Iter.{indexes_left}
use Rattle.iddqd_order.specs.MapBTreeTable.{order_of}
use Rattle.iddqd_ord_map.specs.InOrder.{ListsInOrder}
use Rattle.iddqd_ord_map.proofs.InOrderLemmas.{ListsInOrder-scan}
use Rattle.iddqd_ord_map.proofs.ordered_parts.PartsOrderedParts.iter.Goals as goal

pub returns : goal.returns
returns g c =
    let order = g.X.SortedAt.sorts_by in
    let s = c.self.inside.items.now.store in
    let all = ListsInOrder-scan order s (order_of c.table_at.result.now) c.table_at.ensures in
    let left = subst (ListsInOrder order (λ _. true) s) (sym c.iter.ensures.left) all in
    subst (λ t. ListsInOrder order (λ _. true) t (indexes_left c.iter.result)) c.self.view_is left
