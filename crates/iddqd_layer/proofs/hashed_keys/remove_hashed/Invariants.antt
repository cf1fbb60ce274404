use Rattle.iddqd_layer.specs.Layer.{FreesHashRoom, IsUnfiled}
use Rattle.iddqd_layer.proofs.LoopLemmas.{Halfway}
use Rattle.iddqd_layer.proofs.hashed_keys.remove_hashed.Given as goal

abbrev pub invariant-loop-i : goal.invariant-loop-i
invariant-loop-i l =
    Halfway (λ k old new. IsUnfiled l.ix old new × FreesHashRoom old new) l.i l.fn.tables.items l.tables.items
