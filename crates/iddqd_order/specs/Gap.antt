-- What a contract sees of a gap, which borrows no table.
use Rattle.std.specs.Prelude.{◌≡◌, ◌≢◌, ◌+◌, ◌<◌, ◌≤◌, ℕ, All, Contains, Some, None, Result, Ok, Err, length}
use Rattle.std.specs.Fn.{Mut}
use Rattle.std.specs.declared.cmp.Ordering.{Ordering}
use Rattle.std.specs.declared.cmp.Ordering.TheVariants.{Equal}
use Rattle.iddqd_order.specs.MapBTreeTable.{Order, order_of, fresh_for, move_blocks}
use Rattle.iddqd_order.specs.Search.{SearchAsks, IsSteady, IsSteadyRising, IsPlace, with_ties}
use Rattle.iddqd_order.specs.Tree.{IsTree, ReachesGapIn, FullIn, place_in}
use Rattle.iddqd_order.specs.declared.btree_table.asking.Asking.{Asking}
use Rattle.iddqd_order.specs.declared.btree_table.gap.Gap.{Gap}

-- the gap is one of the table t
pub record Fits (t : Order) (gap : Gap) : Type 0 where
  pub tree : IsTree t.root t.height
  pub goes : ReachesGapIn t.root t.height gap.path
  pub full : FullIn gap.full t.root t.height gap.path
  pub levels : gap.full ≤ t.height + 1

-- how many indexes stand before the gap
abbrev pub gap_place : Order → Gap → ℕ
gap_place t gap = place_in t.root t.height gap.path

-- how many blocks an insert at the gap takes beyond the spare ones of the table
abbrev pub gap_blocks : Order → Gap → ℕ
gap_blocks t gap = fresh_for t gap.full

-- Blocks that were allocated for a move in the old table are enough for a move in the new one. If the new table has
-- fewer indexes, they are also enough for an insert at any of its gaps.
pub record NeedsNoMoreBlocks (old new : Order) : Type 0 where
  pub for_move : move_blocks new ≤ move_blocks old
  pub for_insert : length (order_of new) < length (order_of old) →
      (gap : Gap) → Fits new gap → gap_blocks new gap ≤ move_blocks old

-- A search in the indexes of t; `read` turns an answer into an `Ordering`. It returns `Err` of a stored index: if the
-- answers are steady, the answer there is Equal. Or it returns `Ok` of a gap: if the answers also rise, that is where
-- Greater ends, and none of them is Equal.
module _ {F R : Type 0} (g : Mut F (ℕ × Unit {0}) R) (read : R → Ordering) (t : Order) where
  pub record FindsStored (old : Asking F) (ix : ℕ) : Type 0 where
    pub stored : Contains (order_of t) ix
    pub hit : (answer : ℕ → Ordering) → IsSteady g (order_of t) None read answer old → answer ix ≡ Equal

  pub record FindsFreeGap (old : Asking F) (gap : Gap) : Type 0 where
    pub fits : Fits t gap
    pub within : gap_place t gap ≤ length (order_of t)
    pub place : (answer : ℕ → Ordering) → IsSteadyRising g (order_of t) None read answer old →
        IsPlace answer (order_of t) (gap_place t gap)
    pub miss : (answer : ℕ → Ordering) → IsSteadyRising g (order_of t) None read answer old →
        All (λ ix. answer ix ≢ Equal) (order_of t)

  abbrev pub FindsGap : Asking F → Result Gap ℕ → Asking F → Type 0
  FindsGap old (Err ix) new = SearchAsks g (order_of t) None old new × FindsStored old ix
  FindsGap old (Ok gap) new = SearchAsks g (order_of t) None old new × FindsFreeGap old gap

  -- a search for the gap of an index that isn't stored; if an answer is Equal, the lesser index comes first
  pub record FindsOwnGap (ix : ℕ) (old : Asking F) (gap : Gap) (new : Asking F) : Type 0 where
    pub asked : SearchAsks g (order_of t) (Some ix) old new
    pub fits : Fits t gap
    pub within : gap_place t gap ≤ length (order_of t)
    pub place : (answer : ℕ → Ordering) → IsSteadyRising g (order_of t) (Some ix) read answer old →
        IsPlace (with_ties (Some ix) answer) (order_of t) (gap_place t gap)
