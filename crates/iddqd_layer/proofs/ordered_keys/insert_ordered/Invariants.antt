use Rattle.std.proofs.Common.{get_or}
use Rattle.iddqd_layer.specs.Layer.{IsPlaced, SameCapacity}
use Rattle.iddqd_layer.specs.declared.way.Way.{Way}
use Rattle.iddqd_layer.proofs.LoopLemmas.{Halfway}
use Rattle.iddqd_layer.proofs.ordered_keys.insert_ordered.Given as goal

abbrev pub invariant-loop-i : goal.invariant-loop-i
invariant-loop-i l =
    Halfway (λ k old new. ((way : Way) → IsPlaced l.ix (get_or l.ways k way) old new) × SameCapacity old new)
    l.i l.fn.tables.items l.tables.items
