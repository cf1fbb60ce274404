use Rattle.std.proofs.Common.{◌∙◌, true, length, sym, ap, subst}
use Rattle.iddqd.specs.Store.{live_count}
use Rattle.iddqd_order.specs.Iter.{indexes_left}
use Rattle.iddqd_order.specs.MapBTreeTable.{order_of}
use Rattle.iddqd_by_order.specs.Ordered.{AreLive}
use Rattle.iddqd_keys.specs.KeyWalk.{pairs_at}
use Rattle.iddqd_ord_map.specs.InOrder.{IteratesInOrder}
use Rattle.iddqd_ord_map.proofs.InOrderLemmas.{AreLive-listed, ListsInOrder-scan, IteratesInOrder-listed, length-scan}
use Rattle.iddqd_ord_map.proofs.in_order.MapInOrder.iter_by.Goals as goal

pub new-requires : goal.new-requires
new-requires g c =
    let s = c.parts-2.inside.items.now.store in
    let order = order_of c.table_at.result.now in
    subst (AreLive s) (sym c.iter.ensures.left)
    (AreLive-listed g.X.SortedAt.sorts_by s (λ _. true) order (ListsInOrder-scan g.X.SortedAt.sorts_by s order c.table_at.ensures))

pub returns-clause-items : goal.returns-clause-items
returns-clause-items g c =
    let s = c.parts-2.inside.items.now.store in
    let order = order_of c.table_at.result.now in
    let walk = IteratesInOrder-listed g.X.SortedAt.sorts_by s (λ _. true) order (ListsInOrder-scan g.X.SortedAt.sorts_by s order c.table_at.ensures) in
    let left = subst (λ xs. IteratesInOrder g.X.SortedAt.sorts_by (λ _. true) s (pairs_at s xs)) (sym c.iter.ensures.left) walk in
    let seen = subst (λ t. IteratesInOrder g.X.SortedAt.sorts_by (λ _. true) t (pairs_at s (indexes_left c.iter.result))) (c.parts-2.view_is ∙ c.parts.ensures) left in
    subst (IteratesInOrder g.X.SortedAt.sorts_by (λ _. true) c.args.self.now.store) (sym c.new.ensures) seen

pub returns-clause-len : goal.returns-clause-len
returns-clause-len g c =
    let s = c.parts-2.inside.items.now.store in
    let order = order_of c.table_at.result.now in
    ap length c.new.ensures ∙ ap (λ xs. length (pairs_at s xs)) c.iter.ensures.left
    ∙ length-scan g.X.SortedAt.sorts_by s order c.table_at.ensures ∙ ap (λ t. live_count t) (c.parts-2.view_is ∙ c.parts.ensures)
