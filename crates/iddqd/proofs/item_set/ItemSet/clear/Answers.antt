use Rattle.std.specs.Vec.{vec_capacity}
use Rattle.std.proofs.Common.{refl, arith}
use Rattle.std.proofs.lemmas.List.{length-map}
use Rattle.iddqd.specs.Slots.{item_of}
use Rattle.iddqd.proofs.RoomLemmas.{room-cleared}
use Rattle.iddqd.proofs.SlotLemmas.{IsSoundWithin-none, store-is-valid}
use Rattle.iddqd.proofs.item_set.ItemSet.clear.Goals as goal

pub invariant_of-self : goal.invariant_of-self
invariant_of-self g c = rw c.clear.ensures.items (IsSoundWithin-none c.self.inside.limit c.self.invariant.named)

pub returns : goal.returns
returns g c = record {
  store = rw (c.clear.ensures.items, ← c.self.view_is) refl;
  capacity = rw (← c.self.view_is) c.clear.ensures.capacity;
  room =
      let valid = store-is-valid c.self.invariant in
      rw (← c.self.view_is, c.clear.ensures.items, c.clear.ensures.capacity) (room-cleared _ (vec_capacity c.self.inside.slots) valid (omega (arith, length-map c.self.inside.slots.items item_of)));
}
