use Rattle.std.proofs.Common.{ℕ, get_or}
use Rattle.iddqd_layer.specs.Layer.{IsFiled, UsesHashRoom}
use Rattle.iddqd_layer.proofs.LoopLemmas.{Halfway}
use Rattle.iddqd_layer.proofs.hashed_keys.insert_hashed.Given as goal

abbrev pub invariant-loop-i : goal.invariant-loop-i
invariant-loop-i l =
    Halfway (λ k old new. ((hash : ℕ) → IsFiled l.ix (get_or l.hashes k hash) old new) × UsesHashRoom old new)
    l.i l.fn.tables.items l.tables.items
