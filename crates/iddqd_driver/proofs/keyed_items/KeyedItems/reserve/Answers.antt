use Rattle.std.proofs.Common.{refl, ap}
use Rattle.iddqd_hash.specs.HashTable.{memory as hashed_cells}
use Rattle.iddqd_driver.specs.Memory.{sized_of}
use Rattle.iddqd_driver.proofs.MemoryLemmas.{ReservesInMemory-from_parts, ReservesInMemory-failed, ReservesInMemory-had, wanted_reservable, had_enough, lacks_room, slots_within, few_slots_for, not_fewer, paired_still}
use Rattle.iddqd_driver.proofs.keyed_items.KeyedItems.reserve.Goals as goal

pub returns-then-wanted-room : goal.returns-then-wanted-room
returns-then-wanted-room g c =
    let whole = sized_of c.self.inside.state c.self.inside.items c.self.inside.filed c.self.inside.order in
    let had = rw (← c.self.view_is) at c.room.ensures in
    rw (← c.self.view_is)
    (ReservesInMemory-had whole c.args.additional
    (had_enough whole c.args.additional c.limit.result c.len.result c.min-wanted.result c.limit.ensures.value c.len.ensures c.min-wanted.ensures c.room.result had c.if-wanted-room.true))

pub returns-in-Err : goal.returns-in-Err
returns-in-Err g c =
    let whole = sized_of c.self.inside.state c.self.inside.items c.self.inside.filed c.self.inside.order in
    let had = rw (← c.self.view_is) at c.room.ensures in
    let slots = c.in-Err.ensures in
    rw (← c.self.view_is)
    (ReservesInMemory-failed c.self.inside.state c.self.inside.items c.reserve_slots.new.self c.self.inside.filed c.self.inside.filed c.self.inside.order c.self.inside.order
    c.args.additional _ c.min-wanted.result (wanted_reservable whole c.args.additional c.limit.result c.len.result c.min-wanted.result c.limit.ensures.value c.len.ensures c.min-wanted.ensures) (lacks_room whole c.args.additional c.limit.result c.len.result c.min-wanted.result c.limit.ensures.value c.len.ensures c.min-wanted.ensures c.room.result had c.if-wanted-room.false)
    slots.contents slots.capacity_at_least (few_slots_for _ c.len-2.result c.min-wanted.result _ _ _ c.len-2.ensures slots.few) refl (not_fewer _) refl refl)

pub returns-in-Err-try_reserve : goal.returns-in-Err-try_reserve
returns-in-Err-try_reserve g c =
    let whole = sized_of c.self.inside.state c.self.inside.items c.self.inside.filed c.self.inside.order in
    let had = rw (← c.self.view_is) at c.room.ensures in
    let slots = c.reserve_slots.ensures in
    let hashed = c.in-Err-try_reserve.ensures in
    rw (← c.self.view_is)
    (ReservesInMemory-failed c.self.inside.state c.self.inside.items c.reserve_slots.new.self c.self.inside.filed c.try_reserve.new.self c.self.inside.order c.self.inside.order
    c.args.additional _ c.min-wanted.result (wanted_reservable whole c.args.additional c.limit.result c.len.result c.min-wanted.result c.limit.ensures.value c.len.ensures c.min-wanted.ensures) (lacks_room whole c.args.additional c.limit.result c.len.result c.min-wanted.result c.limit.ensures.value c.len.ensures c.min-wanted.ensures c.room.result had c.if-wanted-room.false)
    slots.contents slots.capacity_at_least (few_slots_for _ c.len-2.result c.min-wanted.result _ _ _ c.len-2.ensures slots.few) hashed.contents hashed.capacity (ap hashed_cells hashed.memory.refused) refl)

pub returns : goal.returns
returns g c =
    let whole = sized_of c.self.inside.state c.self.inside.items c.self.inside.filed c.self.inside.order in
    let had = rw (← c.self.view_is) at c.room.ensures in
    let meant = wanted_reservable whole c.args.additional c.limit.result c.len.result c.min-wanted.result c.limit.ensures.value c.len.ensures c.min-wanted.ensures in
    let slots = c.in_default.ensures in
    let hashed = c.in_default-try_reserve.ensures in
    rw (← c.self.view_is)
    (ReservesInMemory-from_parts c.self.inside.state c.self.inside.items c.reserve_slots.new.self c.self.inside.filed c.try_reserve.new.self c.self.inside.order c.try_reserve-2.new.self
    c.args.additional c.min-wanted.result c.try_reserve-2.result c.self.invariant meant (lacks_room whole c.args.additional c.limit.result c.len.result c.min-wanted.result c.limit.ensures.value c.len.ensures c.min-wanted.ensures c.room.result had c.if-wanted-room.false)
    slots.contents slots.capacity_at_least
    (slots_within whole c.args.additional c.limit.result c.len.result c.min-wanted.result c.limit.ensures.value c.len.ensures c.min-wanted.ensures c.self.invariant.valid c.len-2.result _ c.len-2.ensures slots.reserved)
    (few_slots_for _ c.len-2.result c.min-wanted.result _ _ _ c.len-2.ensures slots.few)
    hashed.contents hashed.memory hashed.capacity hashed.counted c.try_reserve-2.ensures)

pub invariant_of-self : goal.invariant_of-self
invariant_of-self g c =
    paired_still c.self.inside.state c.self.inside.items.store c.reserve_slots.new.self.store c.self.inside.filed c.self.inside.filed c.self.inside.order c.self.inside.order c.self.invariant c.reserve_slots.ensures.contents refl refl

pub invariant_of-self-in-Err-try_reserve : goal.invariant_of-self-in-Err-try_reserve
invariant_of-self-in-Err-try_reserve g c =
    paired_still c.self.inside.state c.self.inside.items.store c.reserve_slots.new.self.store c.self.inside.filed c.try_reserve.new.self c.self.inside.order c.self.inside.order c.self.invariant c.reserve_slots.ensures.contents c.try_reserve.ensures.contents refl

pub invariant_of-self-2 : goal.invariant_of-self-2
invariant_of-self-2 g c =
    paired_still c.self.inside.state c.self.inside.items.store c.reserve_slots.new.self.store c.self.inside.filed c.try_reserve.new.self c.self.inside.order c.try_reserve-2.new.self c.self.invariant c.reserve_slots.ensures.contents c.try_reserve.ensures.contents c.try_reserve-2.ensures.contents
