use Rattle.std.proofs.Common.{map, sym, ◌∙◌, arith}
use Rattle.iddqd.specs.Slots.{item_of}
use Rattle.iddqd.proofs.LiveItemLemmas.{length-pairs_from, IsWalkOf-live_pairs}
use Rattle.iddqd.proofs.item_set.ItemSet.iter.Goals as goal

pub invariant_of-result : goal.invariant_of-result
invariant_of-result g c =
    rw c.as_slice.ensures.value record {
      counted = c.self.invariant.sound.counted ∙ sym (length-pairs_from 0 (map item_of c.self.inside.slots.items));
      named = omega (arith, c.self.invariant.small, c.self.invariant.named);
    }

pub returns-clause-len : goal.returns-clause-len
returns-clause-len g c =
    rw (c.as_slice.ensures.value, ← c.self.view_is) (length-pairs_from 0 (map item_of c.self.inside.slots.items))

pub returns-clause-walk : goal.returns-clause-walk
returns-clause-walk g c =
    rw (c.as_slice.ensures.value) (rw (← c.self.view_is) (IsWalkOf-live_pairs _))
