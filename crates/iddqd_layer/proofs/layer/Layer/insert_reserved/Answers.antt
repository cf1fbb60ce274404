use Rattle.std.proofs.Common.{◌≡◌, ◌≤◌, ◌+◌, None, Contains, get_or, sym, subst, arith}
use Rattle.iddqd.specs.ItemSet as slots
use Rattle.iddqd_hash.specs.HashTable as hash_table
use Rattle.iddqd_order.specs.MapBTreeTable as order_table
use Rattle.std.specs.FinMap as finite
use Rattle.iddqd.specs.Store.{IsFull, inserted}
use Rattle.iddqd.proofs.StoreLemmas.{IsValid-inserted}
use Rattle.iddqd_hash.specs.MapHashTable.{filed}
use Rattle.iddqd_order.specs.MapBTreeTable.{order_of}
use Rattle.iddqd_layer.specs.Layer.{Layer, EachBy, IsFiled, IsPlaced, least_of, room, store_of}
use Rattle.iddqd_layer.proofs.LayerLemmas.{absent-next, hashed-inserted, least-at, least-start, ordered-inserted, paired, unfiled-next}
use Rattle.iddqd_layer.proofs.RoomLemmas.{fits-used, room-used}
use Rattle.iddqd_layer.proofs.layer.Layer.insert_reserved.Goals.{After-insert_ordered}
use Rattle.iddqd_layer.proofs.layer.Layer.insert_reserved.Goals as goal

abbrev was : After-insert_ordered → Layer
was c = record {
  slots = c.self.inside.items;
  hashed = c.self.inside.hashed.items;
  ordered = c.self.inside.ordered.items;
}

abbrev left : After-insert_ordered → Layer
left c = record {
  slots = c.draw-ix.new.items;
  hashed = c.insert_hashed.new.tables.items;
  ordered = c.insert_ordered.new.tables.items;
}

some : (c : After-insert_ordered) → 1 ≤ room (was c)
some c = subst (λ z. 1 ≤ room z) (sym c.self.view_is) c.requires.room

pub draw-ix-requires-clause-room : goal.draw-ix-requires-clause-room
draw-ix-requires-clause-room c =
    let l = c.self.inside in
    let some : 1 ≤ room (record { slots = l.items; hashed = l.hashed.items; ordered = l.ordered.items }) =
    subst (λ z. 1 ≤ room z) (sym c.self.view_is) c.requires.room in
    let n = least_of order_table.room (slots.room l.items) l.ordered.items in
    let all = least-start hash_table.room n l.hashed.items in
    let first = least-start order_table.room (slots.room l.items) l.ordered.items in
    omega arith

pub insert_hashed-requires-clause-room : goal.insert_hashed-requires-clause-room
insert_hashed-requires-clause-room c k t lt =
    let l = c.self.inside in
    let some : 1 ≤ room (record { slots = l.items; hashed = l.hashed.items; ordered = l.ordered.items }) =
    subst (λ z. 1 ≤ room z) (sym c.self.view_is) c.requires.room in
    let n = least_of order_table.room (slots.room l.items) l.ordered.items in
    let all = least-start hash_table.room n l.hashed.items in
    let here = least-at hash_table.room n l.hashed.items k t lt in
    omega arith

pub insert_ordered-requires-clause-room : goal.insert_ordered-requires-clause-room
insert_ordered-requires-clause-room c k t lt =
    let l = c.self.inside in
    let some : 1 ≤ room (record { slots = l.items; hashed = l.hashed.items; ordered = l.ordered.items }) =
    subst (λ z. 1 ≤ room z) (sym c.self.view_is) c.requires.room in
    let n = least_of order_table.room (slots.room l.items) l.ordered.items in
    let all = least-start hash_table.room n l.hashed.items in
    let here = least-at order_table.room (slots.room l.items) l.ordered.items k t lt in
    omega arith

pub insert_hashed-requires-clause-absent : goal.insert_hashed-requires-clause-absent
insert_hashed-requires-clause-absent c k t lt =
    let l = c.self.inside in
    subst (λ z. finite.get (filed (get_or l.hashed.items k t)) z ≡ None) (sym c.draw-ix.ensures.index)
    (unfiled-next l.items.store l.hashed.items l.hashed.items c.self.invariant.valid c.self.invariant.hashed k t lt)

pub insert_ordered-requires-clause-absent : goal.insert_ordered-requires-clause-absent
insert_ordered-requires-clause-absent c k t lt =
    let l = c.self.inside in
    subst (λ z. Contains (order_of (get_or l.ordered.items k t)) z → ⊥) (sym c.draw-ix.ensures.index)
    (absent-next l.items.store l.ordered.items l.ordered.items c.self.invariant.valid c.self.invariant.ordered k t lt)

pub invariant_of-self : goal.invariant_of-self
invariant_of-self c =
    let l = c.self.inside in let s = l.items.store in
    let not_full : IsFull s → ⊥ = subst (λ z. IsFull (store_of z) → ⊥) (sym c.self.view_is) c.requires.not_full in
    paired _ (inserted s tt) c.draw-ix.ensures.stored (IsValid-inserted s tt c.self.invariant.valid not_full)
    (hashed-inserted s l.hashed.items c.insert_hashed.new.tables.items c.args.hashes.now c.self.invariant.valid
    c.self.invariant.hashed
    (subst (λ z. EachBy (IsFiled z) c.args.hashes.now l.hashed.items c.insert_hashed.new.tables.items)
    c.draw-ix.ensures.index c.insert_hashed.ensures.filed))
    (ordered-inserted s l.ordered.items c.insert_ordered.new.tables.items c.args.ways.now c.self.invariant.valid
    c.self.invariant.ordered
    (subst (λ z. EachBy (IsPlaced z) c.args.ways.now l.ordered.items c.insert_ordered.new.tables.items)
    c.draw-ix.ensures.index c.insert_ordered.ensures.placed))

pub returns-clause-room : goal.returns-clause-room
returns-clause-room c =
    let l = c.self.inside in
    subst (λ z. room z ≡ room (left c) + 1) c.self.view_is
    (room-used (was c) (left c) c.draw-ix.result c.args.ways.now (some c) c.draw-ix.ensures.room
    c.insert_hashed.ensures.room c.insert_ordered.ensures.placed c.insert_ordered.ensures.memory)

pub returns-clause-fits : goal.returns-clause-fits
returns-clause-fits c =
    fits-used (was c) (left c) c.draw-ix.result c.args.ways.now (some c) c.insert_ordered.ensures.placed
    c.insert_ordered.ensures.memory
