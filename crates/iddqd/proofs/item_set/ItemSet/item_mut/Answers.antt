use Rattle.std.proofs.Common.{refl, ap}
use Rattle.std.specs.Vec.{vec_capacity}
use Rattle.iddqd.proofs.SlotLemmas.{read_at_live, occupied_slot, item_at_occupied, IsSoundWithin-rebind, rebound-is}
use Rattle.iddqd.proofs.item_set.ItemSet.item_mut.Goals as goal

pub invariant_of-self-lent : goal.invariant_of-self-lent
invariant_of-self-lent g c w =
    let read = read_at_live c.self.inside.slots.items c.args.ix _ (rw (← c.self.view_is) at c.requires) (rw c.as_u32.ensures at c.index_mut.ensures.value) in
    let there = occupied_slot c.self.inside.slots.items c.args.ix _ c.item_mut.result.now read c.item_mut.ensures.value in
    rw c.as_u32.ensures (IsSoundWithin-rebind c.self.invariant c.args.ix _ w there)

pub returns : goal.returns
returns g c =
    let read = read_at_live c.self.inside.slots.items c.args.ix _ (rw (← c.self.view_is) at c.requires) (rw c.as_u32.ensures at c.index_mut.ensures.value) in
    let there = occupied_slot c.self.inside.slots.items c.args.ix _ c.item_mut.result.now read c.item_mut.ensures.value in (
      (refl, λ w. rw (← c.self.view_is, c.as_u32.ensures) (ap (λ s. record { store = s; capacity = vec_capacity c.self.inside.slots }) (rebound-is c.self.invariant c.args.ix _ w there))),
      record { writes_back = tt; value = rw (← c.self.view_is) (item_at_occupied c.self.inside.slots.items c.args.ix _ there) },
    )
