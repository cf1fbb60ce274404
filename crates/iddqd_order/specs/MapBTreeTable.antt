-- What a contract sees of a `MapBTreeTable`.
use Rattle.std.specs.Prelude.{◌≡◌, ◌≢◌, ◌<◌, ◌+◌, ◌-◌, ◌*◌, ◌/◌, ℕ, List, Option, ◌==◌, nat_eq, nat_lt, if◌then◌else◌, not, filter, All, length, slice_index, Some, None, ⊤}
use Rattle.std.specs.List.{IsDistinct}
use Rattle.std.specs.Option.{ForSome}
use Rattle.std.specs.Coded.{×_prop, Unit-prop}
use native.Mathlib.Nat.{ℕ_set}
use Rattle.iddqd_order.specs.declared.btree_table.node.Node.{Node}
use Rattle.iddqd_order.specs.declared.btree_table.spot.Spot.{Spot}
use Rattle.iddqd_order.specs.Node.{AtIndex}
use Rattle.iddqd_order.specs.Tree.{in_order, inners_in, blocks_for, ReachesIndexIn, place_at_level_in, ReachesIn-prop}
pub use Rattle.iddqd.specs.Compaction.{sentinel}
use Rattle.iddqd_order.specs.Shape.{indexes_of_a_block, free_indexes}

-- The model of a table: its root, the number of levels above its leaves, and how many blocks are reserved for its inner
-- nodes. The list of its indexes, in their order, is `order_of`.
pub record Order : Type 0 where
  pub root : Option Node
  pub height : ℕ
  pub reserved : ℕ

-- the indexes in their order
unfoldable pub order_of : Order → List ℕ
order_of t = in_order t.root t.height

-- the tables have the same tree, whatever is reserved for it
pub record HasSameTree (t u : Order) : Type 0 where
  pub root : u.root ≡ t.root
  pub height : u.height ≡ t.height

-- the number of indexes for which `blocks` blocks always suffice
abbrev pub capacity_of : ℕ → ℕ
capacity_of blocks = indexes_of_a_block * blocks + free_indexes

-- how many blocks `indexes` indexes need at most
abbrev pub needed_blocks : ℕ → ℕ
needed_blocks indexes = (indexes + (indexes_of_a_block - free_indexes - 1)) / indexes_of_a_block

-- the capacity of a table that is made for `indexes` indexes
abbrev pub capacity_for : ℕ → ℕ
capacity_for indexes = capacity_of (needed_blocks indexes)

-- how many indexes the table can hold without asking for memory, whatever is added and removed
unfoldable pub capacity : Order → ℕ
capacity t = capacity_of t.reserved

-- how many more indexes it can hold without asking for memory; 0 if it holds more than its capacity
abbrev pub room : Order → ℕ
room t = capacity t - length (order_of t)

-- it can hold one more index without asking for memory
abbrev pub HasRoom : Order → Type 0
HasRoom t = length (order_of t) < capacity t

-- distinct indexes, none of which is `SENTINEL`
pub record IsIndexList (xs : List ℕ) : Type 0 where
  pub distinct : IsDistinct nat_eq xs
  pub assigned : All (λ ix. ix ≢ sentinel) xs

-- all indexes except ix, in their order
abbrev pub without : List ℕ → ℕ → List ℕ
without xs ix = filter (λ j. not (j == ix)) xs

-- the index stands at the place, if one is given
abbrev pub StandsAt : List ℕ → ℕ → Option ℕ → Type 0
StandsAt xs ix place = ForSome place (λ i. (i < length xs) × (slice_index xs i ≡ ix))

-- how many empty blocks lie beside the tree
abbrev pub spare_blocks : Order → ℕ
spare_blocks t = t.reserved - inners_in t.root t.height

-- how many blocks an insert through `full` full nodes takes beyond the spare ones
abbrev pub fresh_for : Order → ℕ → ℕ
fresh_for t full = blocks_for t.height full - spare_blocks t

-- how many blocks a move takes: none up to the capacity, or else one for each level above the leaves and one for a new
-- root
abbrev pub move_blocks : Order → ℕ
move_blocks t = if nat_lt (capacity t) (length (order_of t)) then t.height + 1 else 0

-- a stored index stands at the spot
abbrev pub IsSpot : Order → Spot → Type 0
IsSpot t spot = ReachesIndexIn spot.level t.root t.height spot.path

-- how many indexes stand before the index at the spot
abbrev pub spot_place : Order → Spot → ℕ
spot_place t spot = place_at_level_in spot.level t.root t.height spot.path

-- the index stands at the spot, if one is given
abbrev pub LeadsTo : Order → ℕ → Option Spot → Type 0
LeadsTo t ix None = ⊤
LeadsTo t ix (Some spot) = IsSpot t spot × (slice_index (in_order t.root t.height) (spot_place t spot) ≡ ix)

pub LeadsTo-prop : (t : Order) (ix : ℕ) (spot : Option Spot) → IsProp (LeadsTo t ix spot)
LeadsTo-prop t ix None = Unit-prop
LeadsTo-prop t ix (Some spot) = ×_prop (ReachesIn-prop AtIndex spot.level t.root t.height spot.path) (ℕ_set _ _)
