use Rattle.std.proofs.Common.{◌≡◌, ◌++◌, ◌+◌, ◌≤◌, length}
use Rattle.std.specs.Vec.{vec_len, vec_capacity}
use Rattle.iddqd_order.specs.Iter.{indexes_left}
use Rattle.iddqd_driver.proofs.keyed_items.KeyedItems.indexes.Given as goal

-- the indexes so far, and those to come, for which there is room
abbrev pub invariant-loop-ix : goal.invariant-loop-ix
invariant-loop-ix g l = record {
  whole : l.indexes.items ++ indexes_left l.ix-iterator ≡ l.fn.self.state.order;
  room : vec_len l.indexes + length (indexes_left l.ix-iterator) ≤ vec_capacity l.indexes;
}
