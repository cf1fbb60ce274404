use Rattle.std.proofs.Common.{◌∙◌, true, length, sym, ap, subst}
use Rattle.iddqd.specs.Store.{live_count}
use Rattle.iddqd_order.specs.Iter.{indexes_left}
use Rattle.iddqd_order.specs.MapBTreeTable.{order_of}
use Rattle.iddqd_by_order.specs.OrderedWalk.{SortsWithin}
use Rattle.iddqd_by_order.proofs.OrderedCountLemmas.{length-held}
use Rattle.iddqd_ord_map.specs.KeyOrder.{IsWalkWithin}
use Rattle.iddqd_keys.specs.KeyWalk.{pairs_at}
use Rattle.iddqd_keys.proofs.KeyWalkLemmas.{length-pairs_at}
use Rattle.iddqd_ord_map.proofs.WalkLemmas.{SortsWithin-all, AreLive-within, IsWalkWithin-sorted}
use Rattle.iddqd_ord_map.proofs.id_ord_map.OrdMapBy.iter.Goals as goal
use Rattle.iddqd_ord_map.proofs.id_ord_map.OrdMapBy.iter.Goals.{After-iter}

-- the indexes that are listed are all
all_listed :
    (g : _) (c : After-iter g)
    → SortsWithin g.E.OrdKey.key_of g.E.OrdKey.cmp (λ _. true) c.parts.result.0.now.store
    (indexes_left c.iter.result)
all_listed g c =
    let key_of = g.E.OrdKey.key_of in
    let compare = g.E.OrdKey.cmp in
    let s = c.parts.result.0.now.store in
    subst (SortsWithin key_of compare (λ _. true) s) (sym c.iter.ensures.left)
    (SortsWithin-all key_of compare s (order_of c.parts.result.1.now) c.parts.ensures.sorted)

pub returns-clause-walk : goal.returns-clause-walk
returns-clause-walk g c =
    let key_of = g.E.OrdKey.key_of in
    let compare = g.E.OrdKey.cmp in
    let s = c.parts.result.0.now.store in
    let xs = indexes_left c.iter.result in
    subst (λ t. IsWalkWithin key_of compare (λ _. true) t (pairs_at s xs)) c.parts.ensures.items
    (IsWalkWithin-sorted key_of compare s (λ _. true) xs (all_listed g c) c.parts.ensures.sorted.in_sync.apart)

pub returns-clause-len : goal.returns-clause-len
returns-clause-len g c =
    let s = c.parts.result.0.now.store in
    let xs = indexes_left c.iter.result in
    length-pairs_at s xs (AreLive-within g.E.OrdKey.key_of g.E.OrdKey.cmp s (λ _. true) xs (all_listed g c))
    ∙ ap length c.iter.ensures.left ∙ length-held s (order_of c.parts.result.1.now) c.parts.ensures.sorted.held
    ∙ ap (λ s. live_count s) c.parts.ensures.items
