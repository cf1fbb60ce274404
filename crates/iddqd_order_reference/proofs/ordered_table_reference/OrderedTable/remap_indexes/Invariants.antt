use Rattle.std.proofs.Common.{◌≡◌, ◌++◌, map, take, drop}
use Rattle.iddqd.specs.Compaction.{remapped}
use Rattle.iddqd_order_reference.proofs.ordered_table_reference.OrderedTable.remap_indexes.Given as goal

abbrev pub invariant-loop-ix : goal.invariant-loop-ix
invariant-loop-ix l = l.ix-items
    ≡ map (remapped l.remap) (take l.ix-index l.initial.ix-items) ++ drop l.ix-index l.initial.ix-items
