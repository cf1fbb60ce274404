use Rattle.std.proofs.Common.{◌≡◌, ◌++◌}
use Rattle.iddqd_order.specs.Iter.{indexes_left}
use Rattle.iddqd_order.specs.MapBTreeTable.{order_of}
use Rattle.iddqd_order.proofs.btree_table.table.MapBTreeTable.list.Given as goal

-- the indexes so far, and those to come
abbrev pub invariant-loop-ix : goal.invariant-loop-ix
invariant-loop-ix l = l.list.items ++ indexes_left l.ix-iterator ≡ order_of l.fn.self
