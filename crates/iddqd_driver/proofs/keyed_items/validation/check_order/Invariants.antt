use Rattle.std.proofs.Common.{ℕ, ◌∷◌}
use Rattle.std.specs.List.{Contains}
use Rattle.iddqd_order.specs.Iter.{indexes_left}
use Rattle.iddqd_order.specs.MapBTreeTable.{order_of}
use Rattle.iddqd_keys.specs.Scan.{IsLive}
use Rattle.iddqd_driver.specs.Validation.{by_key}
use Rattle.iddqd_driver.proofs.InSyncLemmas.{SortedAs}
use Rattle.iddqd_driver.proofs.keyed_items.validation.check_order.Given as goal

-- the index before and those that are left are live, and the order is sorted if and only if these are
abbrev pub invariant-loop-ix : goal.invariant-loop-ix
invariant-loop-ix g l = record {
  live : (j : ℕ) → Contains (l.before ∷ indexes_left l.ix-iterator) j → IsLive l.items.store j;
  sorted :
      SortedAs (by_key g.T.KeyedItem.second_key g.T.Key2.Ord.cmp l.items.store) (order_of l.order) l.before
      (indexes_left l.ix-iterator);
}
