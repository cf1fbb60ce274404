-- What a contract sees of a `PreparedRemove`.
use Rattle.std.specs.Prelude.{ℕ, Bool, List, is_some}
use Rattle.std.specs.Borrow.{MutBor}
use Rattle.std.specs.Fn.{Mut}
use Rattle.std.specs.declared.cmp.Ordering.{Ordering}
use Rattle.iddqd_order_reference.specs.OrderedTable.{Listing}
use Rattle.iddqd_order.specs.Prepares.{PreparesRemovalIf}
use Rattle.iddqd_order.specs.declared.btree_table.asking.Asking.{Asking}
use Rattle.iddqd_order_reference.specs.declared.ordered_table_reference.prepared_remove.PreparedRemove.{PreparedRemove}

-- the table that it removes from
abbrev pub table_of : PreparedRemove → MutBor Listing
table_of p = p.table

-- the index that it removes
unfoldable pub index_of : PreparedRemove → ℕ
index_of p = p.ix

-- whether the search found the index
unfoldable pub is_found : PreparedRemove → Bool
is_found p = is_some p.place

-- a removal of ix from the indexes xs is prepared; `read` turns an answer into an `Ordering`
module _ {F R : Type 0} (g : Mut F (ℕ × Unit {0}) R) (read : R → Ordering) (xs : List ℕ) (ix : ℕ) where
  abbrev pub PreparesRemoval : Asking F → PreparedRemove → Asking F → Type 0
  PreparesRemoval old p new = PreparesRemovalIf g read xs ix old (index_of p) (is_found p) new
