-- What a contract sees of an `Iter` of an `OrderedTable`.
use Rattle.std.specs.Prelude.{ℕ, List}
use Rattle.iddqd_order_reference.specs.declared.ordered_table_reference.iter.Iter.{Iter}

-- the indexes still to come
unfoldable pub indexes_left : Iter → List ℕ
indexes_left i = i.rest.now
