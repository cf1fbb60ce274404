-- A node of a table by the path to it from the root, for a search that a caller carries out a node at a time.
use Rattle.std.specs.Prelude.{◌≡◌, ℕ, zero, suc, ◌+◌, ◌-◌, ◌<◌, ◌≤◌, List, [], length, map, slice_index, Option, Some, None, nat_eq, if◌then◌else◌}
use Rattle.iddqd_order.specs.declared.btree_table.node.Node.{Node}
use Rattle.iddqd_order.specs.declared.btree_table.stepping.Descent.{Descent}
use Rattle.iddqd_order.specs.MapBTreeTable.{Order, order_of}
use Rattle.iddqd_order.specs.Node.{row, child, children, before, flat}

-- the descent with these places that ends at this level
abbrev pub node_by : List ℕ → ℕ → Descent
node_by places level = record { path = places; level = level }

-- the place that a descent takes at each level
abbrev pub node_places : Descent → List ℕ
node_places d = d.path

-- how many levels lie below the node of a descent
abbrev pub node_level : Descent → ℕ
node_level d = d.level

-- a path has the place of a child at each level above l
unfoldable pub Enters : ℕ → ℕ → Node → List ℕ → Type 0
Enters l zero n p = l ≡ 0
Enters l (suc h) n p = (l ≤ suc h)
    × (l ≤ h → (slice_index p (suc h) < length (children n)) × Enters l h (child n (slice_index p (suc h))) p)

-- so it goes to a node at level l
pub record GoesTo (l h : ℕ) (n : Node) (p : List ℕ) : Type 0 where
  pub enters : Enters l h n p

-- that node
unfoldable pub node_at : ℕ → ℕ → Node → List ℕ → Node
node_at l zero n p = n
node_at l (suc h) n p = if nat_eq l (suc h) then n else node_at l h (child n (slice_index p (suc h))) p

-- how many indexes come before all of that node
unfoldable pub start : ℕ → ℕ → Node → List ℕ → ℕ
start l zero n p = 0
start l (suc h) n p = if nat_eq l (suc h) then 0
    else length (before (slice_index p (suc h)) (row n) (map (λ k. flat h k) (children n)))
    + start l h (child n (slice_index p (suc h))) p

-- the same in a tree that may be empty, which has one node without indexes
abbrev pub GoesToIn : ℕ → Option Node → ℕ → List ℕ → Type 0
GoesToIn l None h p = l ≡ 0
GoesToIn l (Some n) h p = GoesTo l h n p

abbrev pub row_in : ℕ → Option Node → ℕ → List ℕ → List ℕ
row_in l None h p = []
row_in l (Some n) h p = row (node_at l h n p)

abbrev pub low_in : ℕ → Option Node → ℕ → List ℕ → ℕ
low_in l None h p = 0
low_in l (Some n) h p = start l h n p

abbrev pub high_in : ℕ → Option Node → ℕ → List ℕ → ℕ
high_in l None h p = 0
high_in l (Some n) h p = start l h n p + length (flat l (node_at l h n p))

-- the table has this node
abbrev pub IsNode : Order → Descent → Type 0
IsNode t d = GoesToIn d.level t.root t.height d.path

-- the indexes of its own row
abbrev pub row_of : Order → Descent → List ℕ
row_of t d = row_in d.level t.root t.height d.path

-- All indexes below a node stand together in the table's list, between two gaps: `low`, which has as many indexes
-- before it as its number says, and `high`.
abbrev pub low : Order → Descent → ℕ
low t d = low_in d.level t.root t.height d.path

abbrev pub high : Order → Descent → ℕ
high t d = high_in d.level t.root t.height d.path

-- the indexes of a row stand in the list xs in the same order, between the gaps low and high
pub record StandsBetween (xs row : List ℕ) (low high : ℕ) : Type 0 where
  pub place : ℕ → ℕ
  pub from : (i : ℕ) → i < length row → low ≤ place i
  pub to : (i : ℕ) → i < length row → place i < high
  pub index : (i : ℕ) → i < length row → slice_index xs (place i) ≡ slice_index row i
  pub rises : (i j : ℕ) → i < j → j < length row → place i < place j
  pub within : high ≤ length xs

-- a row is all that stands in the list xs between the gaps low and high
pub record IsAllBetween (xs row : List ℕ) (low high : ℕ) : Type 0 where
  pub long : high ≡ low + length row
  pub index : (i : ℕ) → i < length row → slice_index xs (low + i) ≡ slice_index row i
  pub within : high ≤ length xs

-- One span of the list within another, at the place i of a row: from right behind index i - 1 of the row, or from where
-- the whole span begins, to right before index i, or to where the whole span ends.
pub record Narrows (xs row : List ℕ) (low high i low' high' : ℕ) : Type 0 where
  pub within : i ≤ length row
  pub left : i ≡ 0 → low' ≡ low
  pub behind : 0 < i → (low < low') × (slice_index xs (low' - 1) ≡ slice_index row (i - 1))
  pub right : length row ≤ i → high' ≡ high
  pub ahead : i < length row → (high' < high) × (slice_index xs high' ≡ slice_index row i)
  pub ordered : low' ≤ high'
  pub last : high ≤ length xs

-- the node is the child at the place i of the row of another one
pub record IsChildAt (t : Order) (above : Descent) (i : ℕ) (node : Descent) : Type 0 where
  pub above_is : IsNode t above
  pub is_node : IsNode t node
  pub level : node.level + 1 ≡ above.level
  pub narrows : Narrows (order_of t) (row_of t above) (low t above) (high t above) i (low t node) (high t node)

-- the node is a leaf with a gap at the place i of its row
pub record HasGap (t : Order) (leaf : Descent) (i : ℕ) : Type 0 where
  pub is_node : IsNode t leaf
  pub level : leaf.level ≡ 0
  pub place : i ≤ length (row_of t leaf)

-- how many indexes come before the gap at the place i of the row of a leaf
abbrev pub gap_behind : Order → Descent → ℕ → ℕ
gap_behind t leaf i = low t leaf + i

-- the place in the row of a leaf that a descent takes at level 0, and how many indexes come before the gap there
abbrev pub leaf_place : Descent → ℕ
leaf_place leaf = slice_index leaf.path 0

abbrev pub leaf_gap : Order → Descent → ℕ
leaf_gap t leaf = gap_behind t leaf (leaf_place leaf)
