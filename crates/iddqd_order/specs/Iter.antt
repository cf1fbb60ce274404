-- What a contract sees of an `Iter`.
use Rattle.std.specs.Prelude.{ℕ, List}
use Rattle.iddqd_order.specs.declared.btree_table.iter.Iter.{Iter}

-- the indexes still to come; `indexes_to_come` for an `IntoIter`, `indexes_ahead` for a `Range`
unfoldable pub indexes_left : Iter → List ℕ
indexes_left i = i
