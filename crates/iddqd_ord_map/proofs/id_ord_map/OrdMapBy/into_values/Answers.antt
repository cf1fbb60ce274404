use Rattle.std.proofs.Common.{◌∙◌, true, length, sym, ap}
use Rattle.iddqd.specs.Store.{live_count}
use Rattle.iddqd_order.specs.IntoIter.{indexes_to_come}
use Rattle.iddqd_order.specs.MapBTreeTable.{order_of}
use Rattle.iddqd_by_order.proofs.OrderedCountLemmas.{length-held}
use Rattle.iddqd_map.specs.Map.{MapState}
use Rattle.iddqd_keys.specs.KeyWalk.{pairs_at}
use Rattle.iddqd_ord_map.specs.Pairs.{AreThere}
use Rattle.iddqd_ord_map.proofs.WalkLemmas.{SortsWithin-all, IsWalkWithin-sorted, items_of_pairs}
use Rattle.iddqd_ord_map.proofs.TakeLemmas.{AreThere-listed, length-items_of_slots}
use Rattle.iddqd_ord_map.proofs.id_ord_map.OrdMapBy.into_values.Goals as goal

pub invariant_of-result : goal.invariant_of-result
invariant_of-result g c =
    rw (c.into_consuming.ensures, c.into_iter.ensures.to_come) (AreThere-listed c.into_parts-items.result.0.store (order_of c.into_parts-items.result.1.table) c.into_parts-items.ensures.indexed.held)

pub returns-clause-items : goal.returns-clause-items
returns-clause-items g c =
    let key_of = g.E.OrdKey.key_of in
    let compare = g.E.OrdKey.cmp in
    let s = c.into_parts-items.result.0.store in
    let order = order_of c.into_parts-items.result.1.table in
    let o = c.into_parts-items.ensures.indexed in
    rw (← (c.into_parts-items.ensures.map ∙ c.self.view_is), c.into_consuming.ensures, c.into_iter.ensures.to_come)
    (pairs_at s order, IsWalkWithin-sorted key_of compare s (λ _. true) order (SortsWithin-all key_of compare s order o) o.in_sync.apart, sym (items_of_pairs s order))

pub returns-clause-len : goal.returns-clause-len
returns-clause-len g c =
    let there : AreThere c.into_consuming.result (indexes_to_come c.into_iter.result) =
    rw (c.into_consuming.ensures, c.into_iter.ensures.to_come) (AreThere-listed c.into_parts-items.result.0.store (order_of c.into_parts-items.result.1.table) c.into_parts-items.ensures.indexed.held) in
    let order = order_of c.into_parts-items.result.1.table in
    length-items_of_slots c.into_consuming.result (indexes_to_come c.into_iter.result) there.each ∙ ap length c.into_iter.ensures.to_come
    ∙ length-held c.into_parts-items.result.0.store order c.into_parts-items.ensures.indexed.held ∙ ap (λ (m : MapState _). live_count m.store) (c.into_parts-items.ensures.map ∙ c.self.view_is)
