-- What the steps of a search in an ordered key of a layer answer. The span of a node in the table's list, and what
-- going down does to it, are those of `Rattle.iddqd_order.specs.Stepping`.
use Rattle.std.specs.Prelude.{◌≡◌, ◌⊎◌, ◌+◌, ◌<◌, ◌≤◌, ℕ, List, drop, length, reverse, slice_get, take}
use Rattle.iddqd_order.specs.Buffers.{Fills}
use Rattle.iddqd_order.specs.MapBTreeTable.{Order, order_of}
use Rattle.iddqd_order.specs.Shape.{most_levels}
use Rattle.iddqd_order.specs.Stepping.{IsAllBetween, IsChildAt, IsNode, StandsBetween, high, low, node_level, row_of}
use Rattle.iddqd_order.specs.declared.btree_table.stepping.Descent.{Descent}
use Rattle.iddqd_layer.specs.Layer.{Layer, LeadsToGap, descent_of, gap_at, ordered_of}
use Rattle.iddqd_layer.specs.declared.way.Way.{Way}
use Rattle.iddqd_codes.specs.declared.TheConstants.{OK, WAY}
use Rattle.iddqd_c.specs.Layers.{OfKey}
use Rattle.iddqd_c.specs.Rows.{CopiesBytes}

abbrev pub ReadsOrdered : (Order → Type 0) → ℕ → ℕ → Layer → Type 0
ReadsOrdered P key code l = OfKey P code (slice_get (ordered_of l) key)

-- The indexes of a node's row stand at the start of a buffer, if it has places for all of them; otherwise the code is
-- `SMALL`. Their number is written in any case.
abbrev pub CopiesRow : Descent → ℕ → ℕ → List ℕ → List ℕ → Order → Type 0
CopiesRow node code count was row t = CopiesBytes (row_of t node) code count was row

-- the root and its row: all indexes stand below it
pub record EntersRoot (way : Way) (code count : ℕ) (was row : List ℕ) (t : Order) : Type 0 where
  pub root : Descent
  pub is_node : IsNode t root
  pub from : low t root ≡ 0
  pub to : high t root ≡ length (order_of t)
  pub levels : node_level root < most_levels
  pub copies : CopiesRow root code count was row t
  pub leads : code ≡ OK → descent_of way ≡ root

-- a node and its row: the indexes of a row stand in the table's list between the node's two gaps, and those of a leaf
-- are all that stand there
pub record IsRowOf (node : Descent) (code count : ℕ) (was row : List ℕ) (t : Order) : Type 0 where
  pub is_node : IsNode t node
  pub stands : StandsBetween (order_of t) (row_of t node) (low t node) (high t node)
  pub leaf : node_level node ≡ 0 → IsAllBetween (order_of t) (row_of t node) (low t node) (high t node)
  pub copies : CopiesRow node code count was row t

-- the row of the node to which a way leads; or the table has no such node
abbrev pub ReadsRow : Way → ℕ → ℕ → List ℕ → List ℕ → Order → Type 0
ReadsRow way code count was row t =
    IsRowOf (descent_of way) code count was row t ⊎ ((code ≡ WAY) × (IsNode t (descent_of way) → ⊥))

-- a node has a child at a place of its row
abbrev pub HasChild : Descent → ℕ → Order → Type 0
HasChild node place t = IsNode t node × (0 < node_level node) × (place ≤ length (row_of t node))

-- the child at a place, and its row
pub record EntersChild (above : Descent) (place : ℕ) (way : Way) (code count : ℕ) (was row : List ℕ) (t : Order)
    : Type 0 where
  pub child : Descent
  pub is_child : IsChildAt t above place child
  pub copies : CopiesRow child code count was row t
  pub leads : code ≡ OK → descent_of way ≡ child

-- the child at a place of the row of the node to which a way leads, or there is none
abbrev pub GoesDown : Way → ℕ → Way → ℕ → ℕ → List ℕ → List ℕ → Order → Type 0
GoesDown from place way code count was row t =
    EntersChild (descent_of from) place way code count was row t
    ⊎ ((code ≡ WAY) × (HasChild (descent_of from) place t → ⊥))

-- whether a way leads to a gap of a leaf, where an index can be inserted
abbrev pub SaysGap : Way → ℕ → Order → Type 0
SaysGap way code t = ((code ≡ OK) × LeadsToGap t way) ⊎ ((code ≡ WAY) × (LeadsToGap t way → ⊥))

-- The first indexes behind the gap of a way stand in a buffer, in order, as many as it has places for. The way then
-- leads behind the last of them.
pub record ReadsBehind (from way : Way) (count : ℕ) (was indexes : List ℕ) (t : Order) : Type 0 where
  pub gap : LeadsToGap t from
  pub fills : Fills (drop (gap_at t from) (order_of t)) count was indexes
  pub new_gap : LeadsToGap t way
  pub moved : gap_at t way ≡ gap_at t from + count

-- the same before the gap, from the last index down
pub record ReadsBefore (from way : Way) (count : ℕ) (was indexes : List ℕ) (t : Order) : Type 0 where
  pub gap : LeadsToGap t from
  pub fills : Fills (reverse (take (gap_at t from) (order_of t))) count was indexes
  pub new_gap : LeadsToGap t way
  pub moved : gap_at t way + count ≡ gap_at t from

-- a walk from the gap of a way, or the way leads to none
abbrev pub WalksBehind : Way → Way → ℕ → ℕ → List ℕ → List ℕ → Order → Type 0
WalksBehind from way code count was indexes t =
    ((code ≡ OK) × ReadsBehind from way count was indexes t) ⊎ ((code ≡ WAY) × (LeadsToGap t from → ⊥))

abbrev pub WalksBefore : Way → Way → ℕ → ℕ → List ℕ → List ℕ → Order → Type 0
WalksBefore from way code count was indexes t =
    ((code ≡ OK) × ReadsBefore from way count was indexes t) ⊎ ((code ≡ WAY) × (LeadsToGap t from → ⊥))
