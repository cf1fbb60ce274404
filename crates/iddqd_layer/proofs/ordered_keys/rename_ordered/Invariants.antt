use Rattle.iddqd.specs.Compaction.{remapped}
use Rattle.iddqd_layer.specs.Layer.{RenamesOrdered, SameCapacity}
use Rattle.iddqd_layer.proofs.LoopLemmas.{Halfway}
use Rattle.iddqd_layer.proofs.ordered_keys.rename_ordered.Given as goal

abbrev pub invariant-loop-i : goal.invariant-loop-i
invariant-loop-i l =
    Halfway (λ k old new. RenamesOrdered (remapped l.remap) old new × SameCapacity old new)
    l.i l.fn.tables.items l.tables.items
