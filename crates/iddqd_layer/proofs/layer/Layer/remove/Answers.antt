use Rattle.std.proofs.Common.{◌≡◌, ◌+◌, ◌≤◌, Some, sym, ap, subst, arith}
use Rattle.iddqd.specs.Store.{get, live_count, removed}
use Rattle.iddqd.proofs.LiveCountLemmas.{live_count-removed}
use Rattle.iddqd.proofs.StoreLemmas.{IsValid-removed}
use Rattle.iddqd_layer.specs.Layer.{Layer, FitsItsMemory, IsPaired, room}
use Rattle.iddqd_layer.proofs.LayerLemmas.{hashed-removed, ordered-removed, paired}
use Rattle.iddqd_layer.proofs.RoomLemmas.{fits-held, freed-kept, room-freed, room-held, same-kept}
use Rattle.iddqd_layer.proofs.layer.Layer.remove.Goals.{After-remove_ordered}
use Rattle.iddqd_layer.proofs.layer.Layer.remove.Goals as goal

abbrev was : After-remove_ordered → Layer
was c = record {
  slots = c.self.inside.items;
  hashed = c.self.inside.hashed.items;
  ordered = c.self.inside.ordered.items;
}

abbrev left : After-remove_ordered → Layer
left c = record {
  slots = c.remove.new.self;
  hashed = c.remove_hashed.new.tables.items;
  ordered = c.remove_ordered.new.tables.items;
}

live : (c : After-remove_ordered) → get c.self.inside.items.store c.args.ix ≡ Some tt
live c = sym c.in-Some.ensures.value

left-paired : (c : After-remove_ordered) → IsPaired (left c)
left-paired c =
    let l = c.self.inside in let s = l.items.store in
    paired _ (removed s c.args.ix) (ap (λ z. z.store) c.in-Some.ensures.removed)
    (IsValid-removed s c.args.ix tt c.self.invariant.valid (live c))
    (hashed-removed s l.hashed.items c.remove_hashed.new.tables.items c.args.ix (live c) c.self.invariant.hashed
    c.remove_hashed.ensures.removed)
    (ordered-removed s l.ordered.items c.remove_ordered.new.tables.items c.args.ix (live c) c.self.invariant.ordered
    c.remove_ordered.ensures.removed)

fewer : (c : After-remove_ordered) → live_count c.self.inside.items.store ≡ live_count c.remove.new.self.store + 1
fewer c =
    let s = c.self.inside.items.store in
    let left = ap (λ z. live_count z.store) c.in-Some.ensures.removed in
    let one = live_count-removed s c.args.ix tt c.self.invariant.valid (live c) in
    omega arith

pub invariant_of-self-2 : goal.invariant_of-self-2
invariant_of-self-2 c = left-paired c

pub returns-clause-freed : goal.returns-clause-freed
returns-clause-freed c = λ _ fits.
    subst (λ z. room (left c) ≡ room z + 1) c.self.view_is
    (room-freed (was c) (left c) c.self.invariant (left-paired c) (fewer c)
    (subst FitsItsMemory (sym c.self.view_is) fits)
    c.in-Some.ensures.room c.remove_hashed.ensures.room c.remove_ordered.ensures.memory)

pub returns-clause-room_kept : goal.returns-clause-room_kept
returns-clause-room_kept c =
    let less = fewer c in
    let more = c.in-Some.ensures.room in
    subst (λ z. room z ≤ room (left c)) c.self.view_is
    (room-held (was c) (left c) c.self.invariant (left-paired c) (omega arith) (omega arith)
    (freed-kept _ _ c.remove_hashed.ensures.room) (same-kept _ _ c.remove_ordered.ensures.memory))

pub returns-clause-fits : goal.returns-clause-fits
returns-clause-fits c =
    let less = fewer c in
    subst (λ z. FitsItsMemory z → FitsItsMemory (left c)) c.self.view_is
    (fits-held (was c) (left c) c.self.invariant (left-paired c) (omega arith)
    (same-kept _ _ c.remove_ordered.ensures.memory))
