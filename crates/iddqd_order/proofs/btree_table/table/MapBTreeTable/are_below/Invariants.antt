use Rattle.std.proofs.Common.{◌↔◌, ◌<◌, All}
use Rattle.iddqd_order.specs.Iter.{indexes_left}
use Rattle.iddqd_order.specs.MapBTreeTable.{order_of}
use Rattle.iddqd_order.proofs.btree_table.table.MapBTreeTable.are_below.Given as goal

-- all are below the end if and only if those to come are
abbrev pub invariant-loop-ix : goal.invariant-loop-ix
invariant-loop-ix l = All (λ ix. ix < l.fn.end) (indexes_left l.ix-iterator) ↔ All (λ ix. ix < l.fn.end) (order_of l.fn.self)
