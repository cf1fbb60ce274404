use Rattle.iddqd_layer.specs.Layer.{HasFewCells, KeepsHashRoomTo, SameFiled}
use Rattle.iddqd_layer.proofs.LoopLemmas.{Halfway}
use Rattle.iddqd_layer.proofs.hashed_keys.shrink_hashed.Given as goal

abbrev pub invariant-loop-i : goal.invariant-loop-i
invariant-loop-i l =
    Halfway (λ k old new. SameFiled old new × KeepsHashRoomTo l.least old new × HasFewCells l.least old new)
    l.i l.fn.tables.items l.tables.items
