use Rattle.std.specs.List.{AllZip}
use Rattle.std.specs.Vec.{vec_len, vec_capacity}
use Rattle.std.proofs.Common.{◌≡◌, length, take}
use Rattle.iddqd.specs.Clones.{IsSlotClone}
use Rattle.iddqd.proofs.item_set.clones.cloned_slots.Given as goal

abbrev pub invariant-loop-slot : goal.invariant-loop-slot
invariant-loop-slot g l = record {
  clones : AllZip (IsSlotClone g.T.Clone.is_clone) (take l.slot-index l.slots) l.copies.items;
  pushed : vec_len l.copies ≡ l.slot-index;
  exact : vec_capacity l.copies ≡ length l.slots;
}
