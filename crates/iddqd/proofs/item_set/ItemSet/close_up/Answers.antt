use Rattle.std.specs.Vec.{vec_capacity}
use Rattle.std.proofs.Common.{◌≡◌, ◌≤◌, ap, arith, rules}
use Rattle.std.proofs.lemmas.List.{length-map}
use Rattle.iddqd.specs.Slots.{item_of}
use Rattle.iddqd.specs.Store.{IsValid, slot_count}
use Rattle.iddqd.proofs.RoomLemmas.{room-compacted}
use Rattle.iddqd.proofs.SlotLemmas.{store-is-valid}
use Rattle.std.specs.List.{filter}
use Rattle.std.proofs.lemmas.Fn.{filter_same}
use Rattle.iddqd.proofs.CompactedSlotLemmas.{is_occupied, IsSoundWithin-closed_up, closed_up-is}
use Rattle.iddqd.proofs.item_set.ItemSet.close_up.Goals as goal

pub invariant_of-self : goal.invariant_of-self
invariant_of-self g c =
    let kept : c.retain.new.self.items ≡ filter is_occupied c.self.inside.slots.items = filter_same _ _ _ (λ x b f' k. search rules) _ _ c.retain.ensures.filtered in
    rw kept (IsSoundWithin-closed_up c.self.invariant)

pub returns-clause-compacted : goal.returns-clause-compacted
returns-clause-compacted g c =
    let kept : c.retain.new.self.items ≡ filter is_occupied c.self.inside.slots.items = filter_same _ _ _ (λ x b f' k. search rules) _ _ c.retain.ensures.filtered in
    rw (← c.self.view_is, kept, c.retain.ensures.capacity)
    (ap (λ s. record { store = s; capacity = vec_capacity c.self.inside.slots }) (closed_up-is c.self.invariant))

pub returns-clause-room : goal.returns-clause-room
returns-clause-room g c =
    let valid : IsValid c.args.self.now.store = rw (← c.self.view_is) (store-is-valid c.self.invariant) in
    let holds : slot_count c.args.self.now.store ≤ c.args.self.now.capacity = rw (← c.self.view_is) (omega (arith, length-map c.self.inside.slots.items item_of)) in
    room-compacted c.args.self.now _ valid holds (returns-clause-compacted g c)
