-- What a contract sees of an `IntoIter`.
use Rattle.std.specs.Prelude.{ℕ, List}
use Rattle.iddqd_order.specs.declared.btree_table.into_iter.IntoIter.{IntoIter}

-- the indexes still to come; `indexes_left` for an `Iter`, `indexes_ahead` for a `Range`
unfoldable pub indexes_to_come : IntoIter → List ℕ
indexes_to_come i = i
