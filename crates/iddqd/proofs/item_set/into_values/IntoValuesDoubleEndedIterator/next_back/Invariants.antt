use Rattle.std.proofs.Common.{◌≡◌, map, length}
use Rattle.std.specs.Vec.Iter.{into_iter_items}
use Rattle.iddqd.specs.LiveItems.{items_in}
use Rattle.iddqd.specs.Slots.{item_of}
use Rattle.iddqd.proofs.item_set.into_values.IntoValuesDoubleEndedIterator.next_back.Given as goal

-- only vacant slots were passed over
abbrev pub invariant-loop-slot : goal.invariant-loop-slot
invariant-loop-slot g l =
    (l.self-inside.left ≡ length (items_in (map item_of (into_iter_items l.self-inside.slots))))
    × (items_in (map item_of (into_iter_items l.self-inside.slots)) ≡ l.fn.self)

abbrev pub decreases-loop-slot : goal.decreases-loop-slot
decreases-loop-slot g l = length (into_iter_items l.self-inside.slots)
