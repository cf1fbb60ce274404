use Rattle.std.proofs.Common.{arith}
use Rattle.std.proofs.lemmas.List.{take_more}
use Rattle.std.proofs.lemmas.List.Elements.{AllZip-push}
use Rattle.iddqd.specs.Clones.{IsSlotClone}
use Rattle.iddqd.proofs.item_set.clones.cloned_slots.Goals as goal

pub loop-slot-preserved : goal.loop-slot-preserved
loop-slot-preserved g c =
    let more = take_more c.args.slots.now c.loop-slot.slot-index c.slot-item.result (omega arith) in
    record {
      clones = rw (more, c.push_reserved.ensures.items, ← c.slot-item.is) (AllZip-push (IsSlotClone g.T.Clone.is_clone) _ _ _ _ c.loop-slot.invariant.clones c.in_ok-clone.ensures.cases);
      pushed = omega arith;
      exact = omega arith;
    }
