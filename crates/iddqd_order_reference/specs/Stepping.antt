-- The steps of a search that a caller carries out. The vector has one node, a leaf, whose row is the whole list.
use Rattle.std.specs.Prelude.{◌≡◌, ◌≢◌, ◌+◌, ◌≤◌, ℕ, List, All, Contains, None, Result, Ok, Err, length}
use Rattle.std.specs.Fn.{Mut}
use Rattle.std.specs.declared.cmp.Ordering.{Ordering}
use Rattle.std.specs.declared.cmp.Ordering.TheVariants.{Equal}
use Rattle.iddqd_order.specs.Search.{SearchAsks, IsSteady, IsSteadyRising, IsPlace}
use Rattle.iddqd_order.specs.Stepping.{Narrows, node_level}
use Rattle.iddqd_order.specs.declared.btree_table.asking.Asking.{Asking}
use Rattle.iddqd_order.specs.declared.btree_table.stepping.Descent.{Descent}
use Rattle.iddqd_order_reference.specs.OrderedTable.{Listing, order_of}
use Rattle.iddqd_order_reference.specs.declared.ordered_table_reference.stepping.Gap.{Gap}

-- the table has this node
abbrev pub IsNode : Listing → Descent → Type 0
IsNode t d = node_level d ≡ 0

-- the indexes of its row
abbrev pub row_of : Listing → Descent → List ℕ
row_of t d = order_of t

-- the first and the last gap of the node
abbrev pub low : Listing → Descent → ℕ
low t d = 0

abbrev pub high : Listing → Descent → ℕ
high t d = length (order_of t)

-- the node is the child at the place i of the row of another one
pub record IsChildAt (t : Listing) (above : Descent) (i : ℕ) (node : Descent) : Type 0 where
  pub above_is : IsNode t above
  pub is_node : IsNode t node
  pub level : node_level node + 1 ≡ node_level above
  pub narrows : Narrows (order_of t) (row_of t above) (low t above) (high t above) i (low t node) (high t node)

-- the node is a leaf with a gap at the place i of its row
pub record HasGap (t : Listing) (leaf : Descent) (i : ℕ) : Type 0 where
  pub is_node : IsNode t leaf
  pub level : node_level leaf ≡ 0
  pub place : i ≤ length (row_of t leaf)

-- how many indexes come before the gap at the place i of the row of a leaf
abbrev pub gap_behind : Listing → Descent → ℕ → ℕ
gap_behind t leaf i = low t leaf + i

-- how many indexes stand before a gap
abbrev pub gap_place : Gap → ℕ
gap_place gap = gap.place

-- the gap is one of the table t
abbrev pub Fits : Listing → Gap → Type 0
Fits t gap = gap_place gap ≤ length (order_of t)

-- A search in the indexes of t, as of the tree; `read` turns an answer into an `Ordering`.
module _ {F R : Type 0} (g : Mut F (ℕ × Unit {0}) R) (read : R → Ordering) (t : Listing) where
  pub record FindsStored (old : Asking F) (ix : ℕ) : Type 0 where
    pub stored : Contains (order_of t) ix
    pub hit : (answer : ℕ → Ordering) → IsSteady g (order_of t) None read answer old → answer ix ≡ Equal

  pub record FindsFreeGap (old : Asking F) (gap : Gap) : Type 0 where
    pub fits : Fits t gap
    pub within : gap_place gap ≤ length (order_of t)
    pub place : (answer : ℕ → Ordering) → IsSteadyRising g (order_of t) None read answer old →
        IsPlace answer (order_of t) (gap_place gap)
    pub miss : (answer : ℕ → Ordering) → IsSteadyRising g (order_of t) None read answer old →
        All (λ ix. answer ix ≢ Equal) (order_of t)

  abbrev pub FindsGap : Asking F → Result Gap ℕ → Asking F → Type 0
  FindsGap old (Err ix) new = SearchAsks g (order_of t) None old new × FindsStored old ix
  FindsGap old (Ok gap) new = SearchAsks g (order_of t) None old new × FindsFreeGap old gap
