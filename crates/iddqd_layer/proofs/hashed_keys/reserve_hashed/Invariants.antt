use Rattle.iddqd_layer.specs.Layer.{HasHashRoom, KeepsHashRoom, SameFiled}
use Rattle.iddqd_layer.proofs.LoopLemmas.{Halfway}
use Rattle.iddqd_layer.proofs.hashed_keys.reserve_hashed.Given as goal

abbrev pub invariant-loop-i : goal.invariant-loop-i
invariant-loop-i l =
    Halfway (λ k old new. SameFiled old new × HasHashRoom l.additional old new × KeepsHashRoom old new)
    l.i l.fn.tables.items l.tables.items
