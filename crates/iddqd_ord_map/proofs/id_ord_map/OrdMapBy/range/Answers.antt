use Rattle.std.proofs.Common.{subst, sym}
use Rattle.std.specs.Ordering.{on}
use Rattle.iddqd_order.specs.Range.{indexes_ahead}
use Rattle.iddqd_keys.specs.Bounds.{is_in_bounds}
use Rattle.iddqd_by_order.specs.OrderedWalk.{pairs_at}
use Rattle.iddqd_map.specs.Ranges.{itself}
use Rattle.iddqd_ord_map.specs.KeyOrder.{IsWalkWithin}
use Rattle.iddqd_ord_map.proofs.WalkLemmas.{AreLive-within, IsWalkWithin-sorted}
use Rattle.iddqd_ord_map.proofs.id_ord_map.OrdMapBy.range.Goals as goal

pub new-requires : goal.new-requires
new-requires g c =
    let within = is_in_bounds g.Q.ItemRangeQuery.compare_item c.into_bounds.result in
    AreLive-within itself (on g.E.OrdKey.key_of g.E.OrdKey.cmp) c.parts.result.0.now.store within (indexes_ahead c.range_by.result) c.range_by.ensures

pub returns : goal.returns
returns g c =
    let compare = on g.E.OrdKey.key_of g.E.OrdKey.cmp in
    let s = c.parts.result.0.now.store in
    let within = is_in_bounds g.Q.ItemRangeQuery.compare_item c.into_bounds.result in
    let xs = indexes_ahead c.range_by.result in
    let walk = IsWalkWithin-sorted itself compare s within xs c.range_by.ensures c.parts.ensures.sorted.in_sync.apart in
    let seen = subst (λ t. IsWalkWithin itself compare within t (pairs_at s xs)) c.parts.ensures.items walk in
    rw (← c.into_bounds.ensures) (subst (IsWalkWithin itself compare within c.args.self.now.store) (sym c.new.ensures) seen)
