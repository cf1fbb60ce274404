use Rattle.std.proofs.Common.{◌≤◌, min, subst, arith}
use Rattle.iddqd.specs.Sizes.{insertable}
use Rattle.iddqd_hash.specs.HashTable as hash_table
use Rattle.iddqd_order.specs.MapBTreeTable as order_table
use Rattle.iddqd_layer.specs.Layer.{Layer, FitsItsMemory, room, store_of}
use Rattle.iddqd_layer.proofs.LayerLemmas.{hashed-same, least-above, on_ok, ordered-same, paired}
use Rattle.iddqd_layer.proofs.RoomLemmas.{each-kept, reserved-fits, reserved-room, room-kept}
use Rattle.iddqd_layer.proofs.layer.Layer.reserve.Goals.{After-reserve_ordered}
use Rattle.iddqd_layer.proofs.layer.Layer.reserve.Goals as goal

abbrev was : After-reserve_ordered → Layer
was c = record {
  slots = c.self.inside.items;
  hashed = c.self.inside.hashed.items;
  ordered = c.self.inside.ordered.items;
}

abbrev left : After-reserve_ordered → Layer
left c = record {
  slots = c.reserve_slots.new.items;
  hashed = c.reserve_hashed.new.tables.items;
  ordered = c.reserve_ordered.new.tables.items;
}

pub returns-in_err-reserve_slots-clause-room_kept : goal.returns-in_err-reserve_slots-clause-room_kept
returns-in_err-reserve_slots-clause-room_kept c =
    let l = c.self.inside in
    let new : Layer = record {
      slots = c.reserve_slots.new.items;
      hashed = l.hashed.items;
      ordered = l.ordered.items;
    } in
    subst (λ z. room z ≤ room new) c.self.view_is
    (room-kept (record { slots = l.items; hashed = l.hashed.items; ordered = l.ordered.items }) new
    c.reserve_slots.ensures.room_kept (each-kept hash_table.room l.hashed.items)
    (each-kept order_table.room l.ordered.items))

pub invariant_of-self-in_err-reserve_hashed : goal.invariant_of-self-in_err-reserve_hashed
invariant_of-self-in_err-reserve_hashed c =
    let l = c.self.inside in let s = l.items.store in
    paired _ s c.reserve_slots.ensures.store c.self.invariant.valid
    (hashed-same s l.hashed.items c.reserve_hashed.new.tables.items c.self.invariant.hashed
    c.reserve_hashed.ensures.same)
    c.self.invariant.ordered

pub returns-in_err-reserve_hashed-clause-room_kept : goal.returns-in_err-reserve_hashed-clause-room_kept
returns-in_err-reserve_hashed-clause-room_kept c =
    let l = c.self.inside in
    let new : Layer = record {
      slots = c.reserve_slots.new.items;
      hashed = c.reserve_hashed.new.tables.items;
      ordered = l.ordered.items;
    } in
    subst (λ z. room z ≤ room new) c.self.view_is
    (room-kept (record { slots = l.items; hashed = l.hashed.items; ordered = l.ordered.items }) new
    c.reserve_slots.ensures.room_kept c.reserve_hashed.ensures.room_kept (each-kept order_table.room l.ordered.items))

pub invariant_of-self-2 : goal.invariant_of-self-2
invariant_of-self-2 c =
    let l = c.self.inside in let s = l.items.store in
    paired _ s c.reserve_slots.ensures.store c.self.invariant.valid
    (hashed-same s l.hashed.items c.reserve_hashed.new.tables.items c.self.invariant.hashed
    c.reserve_hashed.ensures.same)
    (ordered-same s l.ordered.items c.reserve_ordered.new.tables.items c.self.invariant.ordered
    c.reserve_ordered.ensures.same)

pub returns-clause-room : goal.returns-clause-room
returns-clause-room c =
    let l = c.self.inside in
    let most = min c.args.additional (insertable l.items.store) in
    let h = c.in_ok-reserve_hashed.ensures.room in
    let hashes = h.long in
    let first = c.in_ok-reserve_slots.ensures.room in
    on_ok c.reserve_ordered.result (λ o.
    let orders = o.long in
    subst (λ z. min c.args.additional (insertable (store_of z)) ≤ room (left c)) c.self.view_is
    (least-above hash_table.room most _ c.reserve_hashed.new.tables.items
    (least-above order_table.room most _ c.reserve_ordered.new.tables.items first
    (λ k a lt. let here = o.at k a a (omega arith) in omega arith))
    (λ k a lt. let here = h.at k a a (omega arith) in omega arith))) c.reserve_ordered.ensures.room

pub returns-clause-room_kept : goal.returns-clause-room_kept
returns-clause-room_kept c =
    subst (λ z. room z ≤ room (left c)) c.self.view_is
    (room-kept (was c) (left c) c.reserve_slots.ensures.room_kept c.reserve_hashed.ensures.room_kept
    (reserved-room _ _ c.reserve_ordered.ensures.same c.reserve_ordered.ensures.memory))

pub returns-clause-fits : goal.returns-clause-fits
returns-clause-fits c =
    subst (λ z. FitsItsMemory z → FitsItsMemory (left c)) c.self.view_is
    (reserved-fits _ _ c.reserve_ordered.ensures.same c.reserve_ordered.ensures.memory)
