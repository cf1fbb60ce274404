-- What the removal of an index leaves of a node, and of a path below it.
use Rattle.std.specs.Prelude.{◌≡◌, ◌≢◌, ℕ, zero, suc, ◌+◌, ◌-◌, ◌<◌, ◌≤◌, List, [], ◌∷◌, ◌++◌, All, Option, Some, None, length, map, sum_by, slice_index, slice_index_or}
use Rattle.iddqd_order.specs.declared.btree_table.node.Node.{Node}
use Rattle.iddqd_order.specs.Node.{row, children, weave, before, flat, inners, IsFormed, ReachesGap, place}
use Rattle.iddqd_order.specs.Reserve.{Reserved}
use Rattle.iddqd_order.specs.Shape.{most_levels, most_in_row, least_in_row}

-- a well-formed node other than the root, with h levels below it
abbrev pub IsChild : ℕ → Node → Type 0
IsChild h k = (least_in_row ≤ length (row k)) × IsFormed h k

-- a node's indexes and its children: well-formed, except that child i may have one index too few
pub record MayLackOne (h i : ℕ) (xs : List ℕ) (ks : List Node) : Type 0 where
  pub some : 1 ≤ length xs
  pub within : length xs ≤ most_in_row
  pub one_more : length ks ≡ length xs + 1
  pub here : i < length ks
  pub at : (d : Node) → (least_in_row ≤ length (row (slice_index_or ks i d)) + 1) × IsFormed h (slice_index_or ks i d)
  pub others : (j : ℕ) (d : Node) → j < length ks → j ≢ i → IsChild h (slice_index_or ks j d)

-- the rows of nodes, with the indexes xs between them
abbrev pub joined_rows : List ℕ → List Node → List ℕ
joined_rows xs ks = weave xs (map row ks)

-- the children of nodes
abbrev pub all_children : List Node → List Node
all_children [] = []
all_children (k ∷ ks) = children k ++ all_children ks

-- how many gaps the first i nodes have in their rows: each has one gap more than indexes
abbrev pub gaps_before : ℕ → List Node → ℕ
gaps_before zero ks = 0
gaps_before (suc i) [] = 0
gaps_before (suc i) (k ∷ ks) = (length (row k) + 1) + gaps_before i ks

-- what mending makes of a node's indexes and its children: they are well-formed, and all indexes are in the same order,
-- as are those of the children alone, and the children's children
pub record IsMended (h : ℕ) (xs : List ℕ) (ks : List Node) (new_xs : List ℕ) (new_ks : List Node) : Type 0 where
  pub within : length new_xs ≤ most_in_row
  pub fewer : length xs ≤ length new_xs + 1
  pub one_more : length new_ks ≡ length new_xs + 1
  pub below : All (IsChild h) new_ks
  pub items : weave new_xs (map (λ k. flat h k) new_ks) ≡ weave xs (map (λ k. flat h k) ks)
  pub rows : joined_rows new_xs new_ks ≡ joined_rows xs ks
  pub grandchildren : all_children new_ks ≡ all_children ks

-- a path goes on below one of the children ks of a node at level h, and there to a gap
pub record LeadsBelow (h : ℕ) (ks : List Node) (p : List ℕ) : Type 0 where
  pub here : slice_index p h < length ks
  pub on : (d : Node) → ReachesGap (h - 1) (slice_index_or ks (slice_index p h) d) p

-- how many indexes come before that gap, if the node has the indexes xs; d is any node
abbrev pub place_below : ℕ → List ℕ → List Node → Node → List ℕ → ℕ
place_below h xs ks d p = length (before (slice_index p h) xs (map (λ k. flat (h - 1) k) ks))
    + place (h - 1) (slice_index_or ks (slice_index p h) d) p

-- how many inner nodes there are among these nodes and below them
abbrev pub inners_of : ℕ → List Node → ℕ
inners_of h ks = sum_by (λ k. inners h k) ks

-- a part of the tree had `was` inner nodes and has `now`, and the reserve has counted the change
pub record Recounts (r new : Reserved) (was now : ℕ) : Type 0 where
  pub inners : new.inners + was ≡ r.inners + now
  pub reserved : new.reserved ≡ r.reserved

-- a root without indexes
abbrev pub IsEmptied : Option Node → ℕ → Type 0
IsEmptied None h = ⊥
IsEmptied (Some n) h = IsFormed h n × (row n ≡ []) × (h < most_levels)
