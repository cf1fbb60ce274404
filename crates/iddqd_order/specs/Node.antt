-- What a node of the tree represents, and what holds of it. A definition that reads the whole tree takes its height h,
-- the number of levels above the leaves.
use Rattle.std.specs.Prelude.{◌≡◌, ℕ, zero, suc, ◌+◌, ◌<◌, ◌≤◌, List, [], ◌∷◌, ◌++◌, All, length, map, sum_by, slice_index, slice_index_or, vec_capacity, Vec, nat_eq, if◌then◌else◌}
use Rattle.std.specs.List.{insert}
use Rattle.std.specs.declared.alloc.Global.{Global}
use Rattle.iddqd_order.specs.declared.btree_table.node.Node.{Node}
use Rattle.iddqd_order.specs.declared.btree_table.node.Node.TheViews.{out-Node}
use Rattle.iddqd_order.specs.Shape.{most_children, most_in_row, least_in_row}

-- the indexes that a node itself holds
abbrev pub row : Node → List ℕ
row n = (out-Node n).row

-- its children, none at a leaf
abbrev pub children : Node → List Node
children n = (out-Node n).children.items

-- how many children its block has room for
abbrev pub child_room : Node → ℕ
child_room n = vec_capacity (out-Node n).children

-- the i-th child
abbrev pub child : Node → ℕ → Node
child n i = slice_index_or (children n) i n

-- the lists ks with the indexes xs between them; there is one list more than indexes, or no list
abbrev pub weave : List ℕ → List (List ℕ) → List ℕ
weave xs [] = xs
weave [] (k ∷ ks) = k
weave (x ∷ xs) (k ∷ ks) = k ++ x ∷ weave xs ks

-- the part of the weave that stands before the i-th list
abbrev pub before : ℕ → List ℕ → List (List ℕ) → List ℕ
before zero xs ks = []
before (suc i) [] ks = []
before (suc i) (x ∷ xs) [] = []
before (suc i) (x ∷ xs) (k ∷ ks) = k ++ x ∷ before i xs ks

-- the part of the weave that stands after the i-th list
abbrev pub after : ℕ → List ℕ → List (List ℕ) → List ℕ
after zero [] ks = []
after zero (x ∷ xs) [] = x ∷ xs
after zero (x ∷ xs) (k ∷ ks) = x ∷ weave xs ks
after (suc i) [] ks = []
after (suc i) (x ∷ xs) [] = x ∷ xs
after (suc i) (x ∷ xs) (k ∷ ks) = after i xs ks

-- all indexes of a tree, in order
unfoldable pub flat : ℕ → Node → List ℕ
flat zero n = row n
flat (suc h) n = weave (row n) (map (λ k. flat h k) (children n))

-- how many inner nodes a tree has, each of which owns one block
unfoldable pub inners : ℕ → Node → ℕ
inners zero n = 0
inners (suc h) n = suc (sum_by (λ k. inners h k) (children n))

-- at most eleven indexes, and no child
pub record IsLeaf (n : Node) : Type 0 where
  pub within : length (row n) ≤ most_in_row
  pub childless : children n ≡ []

-- at most eleven indexes, one child more than indexes, and room for twelve children
pub record IsInner (n : Node) : Type 0 where
  pub within : length (row n) ≤ most_in_row
  pub one_more : length (children n) ≡ length (row n) + 1
  pub has_room : most_children ≤ child_room n

-- all leaves are equally deep, and each node below the root has five indexes or more
unfoldable pub IsFormed : ℕ → Node → Type 0
IsFormed zero n = IsLeaf n
IsFormed (suc h) n = IsInner n × All (λ k. (least_in_row ≤ length (row k)) × IsFormed h k) (children n)

-- where a path ends: at an index, or else in a gap
pub data Stop : Type 0 where
  AtIndex : Stop
  InGap : Stop

-- i is the place of one of `count` indexes, or of one of their `count + 1` gaps
abbrev pub IsPlaceIn : Stop → ℕ → ℕ → Type 0
IsPlaceIn AtIndex i count = i < count
IsPlaceIn InGap i count = i ≤ count

-- a path p has the place of a child at each level above l, and a place in the row at level l
unfoldable pub Passes : Stop → ℕ → ℕ → Node → List ℕ → Type 0
Passes stop l zero n p = (l ≤ 0) × IsPlaceIn stop (slice_index p 0) (length (row n))
Passes stop l (suc h) n p = (l ≤ suc h) × (l ≡ suc h → IsPlaceIn stop (slice_index p (suc h)) (length (row n)))
    × (l ≤ h → (slice_index p (suc h) < length (children n)) × Passes stop l h (child n (slice_index p (suc h))) p)

-- a path goes down to level l, and there to an index, or else to a gap
pub record Reaches (stop : Stop) (l h : ℕ) (n : Node) (p : List ℕ) : Type 0 where
  pub passes : Passes stop l h n p

-- How many indexes come before the index or gap to which a path goes at level l. In an inner node, index i comes after
-- child i.
unfoldable pub place_at_level : ℕ → ℕ → Node → List ℕ → ℕ
place_at_level l zero n p = slice_index p 0
place_at_level l (suc h) n p = length (before (slice_index p (suc h)) (row n) (map (λ k. flat h k) (children n)))
    + (if nat_eq l (suc h) then length (flat h (child n (slice_index p (suc h))))
    else place_at_level l h (child n (slice_index p (suc h))) p)

-- a path goes down to level l, and there to an index
abbrev pub ReachesIndex : ℕ → ℕ → Node → List ℕ → Type 0
ReachesIndex l h n p = Reaches AtIndex l h n p

-- a path goes down to level l, and there to the index ix
abbrev pub LeadsToIndex : ℕ → ℕ → Node → List ℕ → ℕ → Type 0
LeadsToIndex l h n p ix = ReachesIndex l h n p × (slice_index (flat h n) (place_at_level l h n p) ≡ ix)

-- a path goes to a gap of a leaf
abbrev pub ReachesGap : ℕ → Node → List ℕ → Type 0
ReachesGap h n p = Reaches InGap 0 h n p

-- how many indexes come before the gap to which a path goes
abbrev pub place : ℕ → Node → List ℕ → ℕ
place h n p = place_at_level 0 h n p

-- n, a node at level l, is full if l is below k, and isn't full if l is k
abbrev pub FullBelow : ℕ → ℕ → Node → Type 0
FullBelow k l n = (l < k → most_in_row ≤ length (row n)) × (l ≡ k → length (row n) < most_in_row)

-- On a path, the nodes at levels below k are full, and the node at level k isn't. If k is the number of levels, all
-- nodes are full.
unfoldable pub IsFullBelow : ℕ → ℕ → Node → List ℕ → Type 0
IsFullBelow k zero n p = FullBelow k 0 n
IsFullBelow k (suc h) n p = FullBelow k (suc h) n × IsFullBelow k h (child n (slice_index p (suc h))) p

-- an empty block with room for twelve children
abbrev pub IsSpare : Vec Node Global → Type 0
IsSpare s = (s.items ≡ []) × (most_children ≤ vec_capacity s)

-- the index x was inserted at the path's gap; the node is still well-formed, and has `more` more inner nodes
pub record IsPut (h : ℕ) (old new : Node) (p : List ℕ) (x more : ℕ) : Type 0 where
  pub items : flat h new ≡ insert (flat h old) (place h old p) x
  pub formed : IsFormed h new
  pub longer : length (row old) ≤ length (row new)
  pub inner : inners h new ≡ inners h old + more
