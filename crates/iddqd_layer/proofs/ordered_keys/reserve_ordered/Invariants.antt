use Rattle.iddqd_order.specs.MapBTreeTable.{HasSameTree}
use Rattle.iddqd_layer.specs.Layer.{HasOrderRoom, KeepsCapacity}
use Rattle.iddqd_layer.proofs.LoopLemmas.{Halfway}
use Rattle.iddqd_layer.proofs.ordered_keys.reserve_ordered.Given as goal

abbrev pub invariant-loop-i : goal.invariant-loop-i
invariant-loop-i l =
    Halfway (λ k old new. HasSameTree old new × HasOrderRoom l.additional old new × KeepsCapacity old new)
    l.i l.fn.tables.items l.tables.items
