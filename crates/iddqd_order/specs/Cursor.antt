-- Where a cursor stands: in a gap before, between or behind the indexes of a leaf.
use Rattle.std.specs.Prelude.{◌≡◌, ℕ, zero, suc, ◌+◌, ◌-◌, ◌<◌, ◌≤◌, List, [], Option, Some, None, ⊤, length, take, drop, slice_index, slice_set}
use Rattle.std.specs.Borrow.{Bor}
use Rattle.std.specs.Ordering.{MatchOrdering}
use Rattle.std.specs.declared.cmp.Ordering.{Ordering}
use Rattle.iddqd_order.specs.declared.btree_table.cursor.Cursor.{Cursor}
use Rattle.iddqd_order.specs.declared.btree_table.cursor.End.{End}
use Rattle.iddqd_order.specs.declared.btree_table.cursor.End.TheVariants.{Front, Back}
use Rattle.iddqd_order.specs.declared.btree_table.node.Node.{Node}
use Rattle.iddqd_order.specs.Node.{row, child, flat, ReachesGap, place}
use Rattle.iddqd_order.specs.Tree.{ReachesGapIn, place_in}
use Rattle.iddqd_order.specs.Shape.{most_levels}

-- r is how gap i compares with gap j
abbrev pub Compares : Ordering → ℕ → ℕ → Type 0
Compares r i j = MatchOrdering r (i < j) (i ≡ j) (j < i)

-- ix is the index right behind gap i
abbrev pub IsBehind : List ℕ → ℕ → ℕ → Type 0
IsBehind xs i ix = (i < length xs) × (ix ≡ slice_index xs i)

abbrev pub opposite : End → End
opposite Front = Back
opposite Back = Front

-- the gap at an end of `count` indexes
abbrev pub edge_of : End → ℕ → ℕ
edge_of Front count = 0
edge_of Back count = count

-- A step towards an end goes from gap i over one index to gap j. If gap i is at that end, there is no index to go over,
-- and j is i.
abbrev pub Steps : End → List ℕ → ℕ → Option ℕ → ℕ → Type 0
Steps towards xs i None j = (i ≡ edge_of towards (length xs)) × (j ≡ i)
Steps Front xs i (Some ix) j = IsBehind xs j ix × (i ≡ j + 1)
Steps Back xs i (Some ix) j = IsBehind xs i ix × (j ≡ i + 1)

-- In a row of `count` indexes, r.0 is the place of the index next to the gap `place`, towards an end, and r.1 is the
-- gap on the other side of that index. With `None` the gap is at that end.
abbrev pub AreBeside : End → ℕ → ℕ → Option (ℕ × ℕ) → Type 0
AreBeside towards count place None = place ≡ edge_of towards count
AreBeside Front count place (Some r) = (r.0 < count) × (place ≡ r.0 + 1) × (r.1 ≡ r.0)
AreBeside Back count place (Some r) = (r.0 < count) × (place ≡ r.0) × (r.1 ≡ r.0 + 1)

-- the leaf to which a path goes
unfoldable pub leaf : ℕ → Node → List ℕ → List ℕ
leaf zero n p = row n
leaf (suc h) n p = leaf h (child n (slice_index p (suc h))) p

-- the parent of the leaf to which a path goes, or n itself if n is that leaf
unfoldable pub leaf_parent : ℕ → Node → List ℕ → Node
leaf_parent zero n p = n
leaf_parent (suc zero) n p = n
leaf_parent (suc (suc h)) n p = leaf_parent (suc h) (child n (slice_index p (suc (suc h)))) p

-- the path p goes to the gap at an end of n, in the leaf xs
pub record AtEdge (end : End) (h : ℕ) (n : Node) (xs p : List ℕ) : Type 0 where
  pub goes : ReachesGap h n p
  pub place_is : place h n p ≡ edge_of end (length (flat h n))
  pub leaf_is : xs ≡ leaf h n p

-- ix is the index next to the gap of the path p, towards an end; the path q goes to the gap on the other side of ix, in
-- the leaf xs
pub record StepsOver (towards : End) (h : ℕ) (n : Node) (p : List ℕ) (ix : ℕ) (xs q : List ℕ) : Type 0 where
  pub goes : ReachesGap h n q
  pub steps : Steps towards (flat h n) (place h n p) (Some ix) (place h n q)
  pub leaf_is : xs ≡ leaf h n q

-- the leaf to which a path goes in a tree; no index if the tree is empty
abbrev pub leaf_in : Option Node → ℕ → List ℕ → List ℕ
leaf_in None h p = []
leaf_in (Some n) h p = leaf h n p

-- the node, if one is given, is the parent of the leaf to which the path goes
abbrev pub IsLeafParent : Option Node → ℕ → List ℕ → Option (Bor Node) → Type 0
IsLeafParent t h p None = ⊤
IsLeafParent None h p (Some k) = ⊥
IsLeafParent (Some n) h p (Some k) = (0 < h) × (k.now ≡ leaf_parent h n p)

-- two paths take the same child at each level above the leaves, from level h down
abbrev pub Agree : ℕ → List ℕ → List ℕ → Type 0
Agree h p q = (k : ℕ) → 0 < k → k ≤ h → slice_index p k ≡ slice_index q k

-- the path with `at` as its place in the leaf
abbrev pub to_gap : List ℕ → ℕ → List ℕ
to_gap path at = slice_set path 0 at

-- the path goes to a leaf that has a gap at the place `at`
pub record IsGap (t : Option Node) (h : ℕ) (path : List ℕ) (at : ℕ) : Type 0 where
  pub whole : length path ≡ most_levels
  pub goes : ReachesGapIn t h (to_gap path at)

-- the path goes to the leaf `row`, which has a gap at the place `at`
pub record IsAt (t : Option Node) (h : ℕ) (path row : List ℕ) (at : ℕ) : Type 0 where
  pub gap : IsGap t h path at
  pub leaf : row ≡ leaf_in t h (to_gap path at)
  pub within : at ≤ length row

-- the cursor stands in a gap of the tree
pub record Stands (t : Option Node) (h : ℕ) (c : Cursor) : Type 0 where
  pub at : IsAt t h c.path c.row.now c.at
  pub leaf_parent : IsLeafParent t h c.path c.leaf_parent

-- how many indexes stand before the cursor's gap
abbrev pub gap_of : Option Node → ℕ → Cursor → ℕ
gap_of t h c = place_in t h (to_gap c.path c.at)

-- the next `count` indexes behind gap i
abbrev pub next_behind : ℕ → ℕ → List ℕ → List ℕ
next_behind count i xs = take count (drop i xs)

-- the indexes between two gaps; none if the second comes first
abbrev pub part : ℕ → ℕ → List ℕ → List ℕ
part from to xs = next_behind (to - from) from xs
