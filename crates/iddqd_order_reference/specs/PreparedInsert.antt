-- What a contract sees of a `PreparedInsert`.
use Rattle.std.specs.Prelude.{◌≡◌, ℕ, List, Result}
use Rattle.std.specs.Borrow.{RestsIfErr, Fml, MutBor}
use Rattle.std.specs.Fn.{Mut}
use Rattle.std.specs.declared.cmp.Ordering.{Ordering}
use Rattle.iddqd_order_reference.specs.OrderedTable.{Listing, order_of}
use Rattle.iddqd_order.specs.Prepares.{PreparesInsertAt}
use Rattle.iddqd_order_reference.specs.contracts.ordered_table_reference.OrderedTable.{the_row}
use Rattle.iddqd_order.specs.declared.btree_table.asking.Asking.{Asking}
use Rattle.iddqd_order_reference.specs.declared.ordered_table_reference.prepared_insert.PreparedInsert.{PreparedInsert}

-- the table that it adds to
abbrev pub table_of : PreparedInsert → MutBor Listing
table_of p = p.table

-- the index that it adds
unfoldable pub index_of : PreparedInsert → ℕ
index_of p = p.ix

-- how many indexes will stand before the new one
unfoldable pub place_of : PreparedInsert → ℕ
place_of p = p.place

-- if memory ran out, the table is as it was
abbrev pub unchanged_if_out_of_memory : {E : Type 0} → MutBor Listing → Result PreparedInsert E → Fml
unchanged_if_out_of_memory t r = RestsIfErr the_row t (λ p. p.table.ghost_name) r (λ n. n ≡ t.now)

-- an insert of ix among the indexes xs is prepared; `read` turns an answer into an `Ordering`
module _ {F R : Type 0} (g : Mut F (ℕ × Unit {0}) R) (read : R → Ordering) (xs : List ℕ) (ix : ℕ) where
  abbrev pub PreparesInsert : Asking F → PreparedInsert → Type 0
  PreparesInsert old p = PreparesInsertAt g read xs ix old (order_of (table_of p).now) (index_of p) (place_of p)
