-- What a contract sees of a `PreparedBTreeInsert`.
use Rattle.std.specs.Prelude.{◌≡◌, ◌≤◌, ℕ, List, Result}
use Rattle.std.specs.Borrow.{RestsIfErr, Fml, MutBor}
use Rattle.std.specs.Fn.{Mut}
use Rattle.std.specs.declared.cmp.Ordering.{Ordering}
use Rattle.iddqd_order.specs.Gap.{gap_place, gap_blocks}
use Rattle.iddqd_order.specs.MapBTreeTable.{Order, order_of}
use Rattle.iddqd_order.specs.Prepares.{PreparesInsertAt}
use Rattle.iddqd_order.specs.contracts.btree_table.blocks.BlocksHoldsBlocks.TheImpl.{ghosts}
use Rattle.iddqd_order.specs.contracts.btree_table.table.MapBTreeTable.{the_row}
use Rattle.iddqd_order.specs.declared.btree_table.asking.Asking.{Asking}
use Rattle.iddqd_order.specs.declared.btree_table.prepared_insert.PreparedBTreeInsert.{PreparedBTreeInsert}
use Rattle.iddqd_order.specs.Shape.{most_levels}

-- a prepared insert with its blocks, which a contract sees as their number
abbrev pub Prepared : Type 0
Prepared = PreparedBTreeInsert ℕ ghosts

-- the table that it adds to
abbrev pub table_of : Prepared → MutBor Order
table_of p = p.table

-- the index that it adds
unfoldable pub index_of : Prepared → ℕ
index_of p = p.ix

-- how many indexes will stand before the new one
unfoldable pub place_of : Prepared → ℕ
place_of p = gap_place p.table.now p.gap

-- how many blocks of memory it holds, each for the children of one node
unfoldable pub blocks_of : Prepared → ℕ
blocks_of p = p.blocks

-- how many blocks its insert needs beyond the spare ones of the table
unfoldable pub needed_of : Prepared → ℕ
needed_of p = gap_blocks p.table.now p.gap

-- if memory ran out, the table is as it was
abbrev pub unchanged_if_out_of_memory : {E : Type 0} → MutBor Order → Result Prepared E → Fml
unchanged_if_out_of_memory t r = RestsIfErr the_row t (λ p. p.table.ghost_name) r (λ n. n ≡ t.now)

-- an insert of ix among the indexes xs is prepared, with exactly the blocks that it needs, which are for one path at
-- most; `read` turns an answer into an `Ordering`
module _ {F R : Type 0} (g : Mut F (ℕ × Unit {0}) R) (read : R → Ordering) (xs : List ℕ) (ix : ℕ) where
  pub record PreparesInsert (old : Asking F) (p : Prepared) : Type 0 where
    pub prepared : PreparesInsertAt g read xs ix old (order_of (table_of p).now) (index_of p) (place_of p)
    pub needed : blocks_of p ≡ needed_of p
    pub few_blocks : blocks_of p ≤ most_levels
