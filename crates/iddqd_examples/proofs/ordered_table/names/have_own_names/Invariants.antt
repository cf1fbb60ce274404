use Rattle.std.proofs.Common.{◌≡◌, ◌++◌, All}
use Rattle.iddqd.specs.Compaction.{CanRemap, remapped}
use Rattle.iddqd_order.specs.Iter.{indexes_left}
use Rattle.iddqd_order.specs.MapBTreeTable.{order_of}
use Rattle.iddqd_examples.proofs.ordered_table.names.have_own_names.Given as goal

abbrev pub invariant-loop-ix : goal.invariant-loop-ix
invariant-loop-ix l =
    (l.yielded ++ indexes_left l.ix-iterator ≡ order_of l.table)
    × All (CanRemap l.remap) l.yielded
    × All (λ i. All (λ j. remapped l.remap i ≡ remapped l.remap j → i ≡ j) (order_of l.table)) l.yielded
