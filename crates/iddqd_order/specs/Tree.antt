-- What a table's tree holds: the tree below a root, or nothing.
use Rattle.std.specs.Prelude.{◌≡◌, ℕ, zero, suc, ◌<◌, ◌≤◌, List, [], All, length, slice_index, Option, Some, None, nat_eq, nat_lt, if◌then◌else◌, ◌-◌}
use Rattle.std.specs.List.{IsDistinct}
use Rattle.std.specs.Coded.{×_prop, →_prop, le_prop}
use native.Mathlib.Nat.{ℕ_set}
use Rattle.iddqd.specs.Compaction.{sentinel}
use Rattle.iddqd_order.specs.declared.btree_table.node.Node.{Node}
use Rattle.iddqd_order.specs.Node.{row, child, flat, inners, IsFormed, Stop, AtIndex, InGap, IsPlaceIn, Passes, Reaches, place_at_level, FullBelow, IsFullBelow}
use Rattle.iddqd_order.specs.Shape.{most_levels}

-- its indexes, in order
abbrev pub in_order : Option Node → ℕ → List ℕ
in_order None h = []
in_order (Some n) h = flat h n

-- how many inner nodes it has
abbrev pub inners_in : Option Node → ℕ → ℕ
inners_in None h = 0
inners_in (Some n) h = inners h n

-- the root has an index, and there are at most twelve levels
abbrev pub IsTree : Option Node → ℕ → Type 0
IsTree None h = h ≡ 0
IsTree (Some n) h = IsFormed h n × (1 ≤ length (row n)) × (h < most_levels)

-- a path goes down to level l, and there to an index, or else to a gap; in an empty tree, to its only gap
abbrev pub ReachesIn : Stop → ℕ → Option Node → ℕ → List ℕ → Type 0
ReachesIn stop l None h p = IsPlaceIn stop 0 0
ReachesIn stop l (Some n) h p = Reaches stop l h n p

-- how many indexes come before the index or gap to which a path goes at level l
abbrev pub place_at_level_in : ℕ → Option Node → ℕ → List ℕ → ℕ
place_at_level_in l None h p = 0
place_at_level_in l (Some n) h p = place_at_level l h n p

-- a path goes down to level l, and there to an index
abbrev pub ReachesIndexIn : ℕ → Option Node → ℕ → List ℕ → Type 0
ReachesIndexIn l r h p = ReachesIn AtIndex l r h p

-- a path goes to a gap
abbrev pub ReachesGapIn : Option Node → ℕ → List ℕ → Type 0
ReachesGapIn r h p = ReachesIn InGap 0 r h p

-- how many indexes come before the gap to which a path goes
abbrev pub place_in : Option Node → ℕ → List ℕ → ℕ
place_in r h p = place_at_level_in 0 r h p

-- on a path, the nodes at levels below k are full, and the node at level k isn't
abbrev pub FullIn : ℕ → Option Node → ℕ → List ℕ → Type 0
FullIn k None h p = k ≡ 0
FullIn k (Some n) h p = IsFullBelow k h n p

-- How many blocks an insert takes if `full` nodes at the lower end of its path are full: one for each full inner node,
-- which it splits, and one for a new root if all nodes on the path are full.
abbrev pub blocks_for : ℕ → ℕ → ℕ
blocks_for height full = if nat_lt height full then full else full - 1

-- a table's parts: a tree of distinct indexes below `SENTINEL`, and the numbers of its indexes and its inner nodes
pub record IsTable (root : Option Node) (height len inner_nodes : ℕ) : Type 0 where
  pub tree : IsTree root height
  pub counted : len ≡ length (in_order root height)
  pub distinct : IsDistinct nat_eq (in_order root height)
  pub assigned : All (λ ix. ix < sentinel) (in_order root height)
  pub inners : inner_nodes ≡ inners_in root height

FullBelow-prop : (k l : ℕ) (n : Node) → IsProp (FullBelow k l n)
FullBelow-prop k l n = ×_prop (→_prop le_prop) (→_prop le_prop)

IsFullBelow-prop : (k h : ℕ) (n : Node) (p : List ℕ) → IsProp (IsFullBelow k h n p)
unfolding IsFullBelow
IsFullBelow-prop k zero n p = FullBelow-prop k 0 n
IsFullBelow-prop k (suc h) n p = ×_prop (FullBelow-prop k (suc h) n) (IsFullBelow-prop k h _ _)

pub FullIn-prop : (k : ℕ) (r : Option Node) (h : ℕ) (p : List ℕ) → IsProp (FullIn k r h p)
FullIn-prop k None h p = ℕ_set _ _
FullIn-prop k (Some n) h p = IsFullBelow-prop k h n p

IsPlaceIn-prop : (stop : Stop) (i count : ℕ) → IsProp (IsPlaceIn stop i count)
IsPlaceIn-prop AtIndex i count = le_prop
IsPlaceIn-prop InGap i count = le_prop

Passes-prop : (stop : Stop) (l h : ℕ) (n : Node) (p : List ℕ) → IsProp (Passes stop l h n p)
unfolding Passes
Passes-prop stop l zero n p u v = ×_prop le_prop (IsPlaceIn-prop stop (slice_index p 0) (length (row n))) u v
Passes-prop stop l (suc h) n p u v = λ i. (
  le_prop u.0 v.0 i,
  →_prop (IsPlaceIn-prop stop (slice_index p (suc h)) (length (row n))) u.1 v.1 i,
  →_prop (×_prop le_prop (Passes-prop stop l h (child n (slice_index p (suc h))) p)) u.2 v.2 i,
)

pub ReachesIn-prop : (stop : Stop) (l : ℕ) (r : Option Node) (h : ℕ) (p : List ℕ) → IsProp (ReachesIn stop l r h p)
ReachesIn-prop stop l None h p u v = IsPlaceIn-prop stop 0 0 u v
ReachesIn-prop stop l (Some n) h p u v = λ i. record { passes = Passes-prop stop l h n p u.passes v.passes i }
