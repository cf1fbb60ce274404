use Rattle.std.specs.Vec.{vec_capacity}
use Rattle.std.proofs.Common.{arith}
use Rattle.std.proofs.lemmas.Grind.{common_steps}
use Rattle.std.proofs.lemmas.List.{length-map}
use Rattle.std.proofs.lemmas.Result.{on_ok_weaker}
use Rattle.iddqd.specs.Slots.{item_of}
use Rattle.iddqd.proofs.SlotLemmas.{store-is-valid}
use Rattle.iddqd.proofs.RoomLemmas.{room_ahead}
use Rattle.iddqd.proofs.item_set.ItemSet.reserve.Goals as goal

pub returns-then-additional-capacity-clause-room : goal.returns-then-additional-capacity-clause-room
returns-then-additional-capacity-clause-room g c =
    let valid = store-is-valid c.self.invariant in
    rw (← c.self.view_is) (room_ahead _ (vec_capacity c.self.inside.slots) c.args.additional valid (omega (arith, length-map c.self.inside.slots.items item_of)))

pub returns-clause-room : goal.returns-clause-room
returns-clause-room g c =
    let valid = store-is-valid c.self.invariant in
    let new = c.grow.new.self in
    on_ok_weaker c.grow.result (λ grew. room_ahead new.store new.capacity c.args.additional (rw (c.grow.ensures.contents, ← c.self.view_is) valid) (grind (arith, common_steps, grew, length-map c.self.inside.slots.items item_of))) c.grow.ensures.grown

pub returns-then-additional-capacity-clause-memory : goal.returns-then-additional-capacity-clause-memory
returns-then-additional-capacity-clause-memory g c = grind (arith, common_steps)

pub returns-clause-memory : goal.returns-clause-memory
returns-clause-memory g c = grind (arith, common_steps)
