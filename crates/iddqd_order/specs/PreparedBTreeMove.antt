-- What a contract sees of a `PreparedBTreeMove`.
use Rattle.std.specs.Prelude.{◌≡◌, ◌≤◌, ℕ, List, Some, Result, length, insert}
use Rattle.std.specs.Borrow.{RestsIfErr, Fml, MutBor}
use Rattle.std.specs.Fn.{Mut}
use Rattle.std.specs.declared.cmp.Ordering.{Ordering}
use Rattle.iddqd_order.specs.MapBTreeTable.{Order, order_of, move_blocks, without}
use Rattle.iddqd_order.specs.Search.{IsSteadyRising, IsPlace, with_ties}
use Rattle.iddqd_order.specs.contracts.btree_table.blocks.BlocksHoldsBlocks.TheImpl.{ghosts}
use Rattle.iddqd_order.specs.contracts.btree_table.table.MapBTreeTable.{the_row}
use Rattle.iddqd_order.specs.declared.btree_table.asking.Asking.{Asking}
use Rattle.iddqd_order.specs.declared.btree_table.prepared_move.PreparedBTreeMove.{PreparedBTreeMove}
use Rattle.iddqd_order.specs.Shape.{most_levels}

-- a prepared move with its blocks, which a contract sees as their number
abbrev pub PreparedMove : Type 0
PreparedMove = PreparedBTreeMove ℕ ghosts

-- the table in which it moves
abbrev pub table_of : PreparedMove → MutBor Order
table_of p = p.table

-- the index that it moves
unfoldable pub index_of : PreparedMove → ℕ
index_of p = p.ix

-- the other indexes of the table, in their order
abbrev pub others_of : PreparedMove → List ℕ
others_of p = without (order_of (table_of p).now) (index_of p)

-- how many blocks of memory it holds, each for the children of one node
unfoldable pub blocks_of : PreparedMove → ℕ
blocks_of p = p.blocks

-- if memory ran out, the table is as it was
abbrev pub unchanged_if_out_of_memory : {E : Type 0} → MutBor Order → Result PreparedMove E → Fml
unchanged_if_out_of_memory t r = RestsIfErr the_row t (λ p. p.table.ghost_name) r (λ n. n ≡ t.now)

-- a move of ix among the indexes xs is prepared, with exactly the blocks that a move needs, and nothing is moved yet
pub record PreparesMove (xs : List ℕ) (ix : ℕ) (p : PreparedMove) : Type 0 where
  pub table : order_of (table_of p).now ≡ xs
  pub index : index_of p ≡ ix
  pub needed : blocks_of p ≡ move_blocks (table_of p).now
  pub few_blocks : blocks_of p ≤ most_levels

-- ix is inserted among the indexes xs. If the answers are steady and, with ties broken, rise, it stands where Greater
-- then ends. `read` turns an answer into an `Ordering`.
module _ {F R : Type 0} (g : Mut F (ℕ × Unit {0}) R) (read : R → Ordering) (xs : List ℕ) (ix : ℕ) where
  pub record PutsIn (old : Asking F) (new_xs : List ℕ) : Type 0 where
    pub place : ℕ
    pub within : place ≤ length xs
    pub inserted : new_xs ≡ insert xs place ix
    pub belongs : (answer : ℕ → Ordering) → IsSteadyRising g xs (Some ix) read answer old →
        IsPlace (with_ties (Some ix) answer) xs place
