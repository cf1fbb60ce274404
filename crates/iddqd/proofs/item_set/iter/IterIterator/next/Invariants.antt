use Rattle.std.proofs.Common.{◌≡◌, map, length}
use Rattle.iddqd.specs.LiveItems.{pairs_from}
use Rattle.iddqd.specs.Slots.{item_of, IsSlotWalk}
use Rattle.iddqd.proofs.item_set.iter.IterIterator.next.Given as goal

-- only vacant slots were passed over
abbrev pub invariant-loop-slot : goal.invariant-loop-slot
invariant-loop-slot g l =
    IsSlotWalk l.self-inside.slots.now l.self-inside.first l.self-inside.left
    × (pairs_from l.self-inside.first (map item_of l.self-inside.slots.now) ≡ l.fn.self)

abbrev pub decreases-loop-slot : goal.decreases-loop-slot
decreases-loop-slot g l = length l.self-inside.slots.now
