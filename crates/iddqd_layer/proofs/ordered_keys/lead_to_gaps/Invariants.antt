use Rattle.std.proofs.Common.{ℕ, ◌<◌, get_or}
use Rattle.iddqd_order.specs.MapBTreeTable.{Order}
use Rattle.iddqd_layer.specs.Layer.{LeadsToGap}
use Rattle.iddqd_layer.specs.declared.way.Way.{Way}
use Rattle.iddqd_layer.proofs.ordered_keys.lead_to_gaps.Given as goal

abbrev pub invariant-loop-i : goal.invariant-loop-i
invariant-loop-i l = (k : ℕ) (t : Order) (way : Way) → k < l.i → LeadsToGap (get_or l.tables k t) (get_or l.ways k way)
