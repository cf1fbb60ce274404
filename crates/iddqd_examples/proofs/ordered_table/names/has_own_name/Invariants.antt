use Rattle.std.proofs.Common.{◌≡◌, ◌++◌, All}
use Rattle.iddqd.specs.Compaction.{remapped}
use Rattle.iddqd_order.specs.Iter.{indexes_left}
use Rattle.iddqd_order.specs.MapBTreeTable.{order_of}
use Rattle.iddqd_examples.proofs.ordered_table.names.has_own_name.Given as goal

abbrev pub invariant-loop-other : goal.invariant-loop-other
invariant-loop-other l = (l.yielded ++ indexes_left l.other-iterator ≡ order_of l.table) × All (λ j. remapped l.remap l.ix ≡ remapped l.remap j → l.ix ≡ j) l.yielded
