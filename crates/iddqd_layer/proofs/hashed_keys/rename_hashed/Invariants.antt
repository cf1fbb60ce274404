use Rattle.iddqd.specs.Compaction.{remapped}
use Rattle.iddqd_layer.specs.Layer.{KeepsHashRoom, RenamesHashed}
use Rattle.iddqd_layer.proofs.LoopLemmas.{Halfway}
use Rattle.iddqd_layer.proofs.hashed_keys.rename_hashed.Given as goal

abbrev pub invariant-loop-i : goal.invariant-loop-i
invariant-loop-i l =
    Halfway (λ k old new. RenamesHashed (remapped l.remap) old new × KeepsHashRoom old new)
    l.i l.fn.tables.items l.tables.items
