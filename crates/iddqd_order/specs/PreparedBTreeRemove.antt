-- What a contract sees of a `PreparedBTreeRemove`.
use Rattle.std.specs.Prelude.{ℕ, Bool, List, is_some}
use Rattle.std.specs.Borrow.{MutBor}
use Rattle.std.specs.Fn.{Mut}
use Rattle.std.specs.declared.cmp.Ordering.{Ordering}
use Rattle.iddqd_order.specs.MapBTreeTable.{Order}
use Rattle.iddqd_order.specs.Prepares.{PreparesRemovalIf}
use Rattle.iddqd_order.specs.declared.btree_table.asking.Asking.{Asking}
use Rattle.iddqd_order.specs.declared.btree_table.prepared_remove.PreparedBTreeRemove.{PreparedBTreeRemove}

-- the table that it removes from
abbrev pub table_of : PreparedBTreeRemove → MutBor Order
table_of p = p.table

-- the index that it removes
unfoldable pub index_of : PreparedBTreeRemove → ℕ
index_of p = p.ix

-- whether the search found the index
unfoldable pub is_found : PreparedBTreeRemove → Bool
is_found p = is_some p.spot

-- a removal of ix from the indexes xs is prepared; `read` turns an answer into an `Ordering`
module _ {F R : Type 0} (g : Mut F (ℕ × Unit {0}) R) (read : R → Ordering) (xs : List ℕ) (ix : ℕ) where
  abbrev pub PreparesRemoval : Asking F → PreparedBTreeRemove → Asking F → Type 0
  PreparesRemoval old p new = PreparesRemovalIf g read xs ix old (index_of p) (is_found p) new
