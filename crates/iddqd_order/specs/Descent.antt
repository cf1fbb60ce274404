-- Where a walk down a tree ends.
use Rattle.std.specs.Prelude.{◌≡◌, ℕ, ◌+◌, ◌*◌, ◌<◌, List, Option, Some, None, Result, Ok, Err, IfOk, IfErr, slice_index}
use Rattle.std.specs.declared.cmp.Ordering.{Ordering}
use Rattle.std.specs.Fn.{Mut}
use Rattle.iddqd_order.specs.declared.btree_table.asking.Asking.{Asking}
use Rattle.iddqd_order.specs.declared.btree_table.gap.Gap.{Gap}
use Rattle.iddqd_order.specs.declared.btree_table.node.Node.{Node}
use Rattle.iddqd_order.specs.declared.btree_table.spot.Spot.{Spot}
use Rattle.iddqd_order.specs.Gap.{Fits, gap_place}
use Rattle.iddqd_order.specs.MapBTreeTable.{Order, order_of, IsSpot, spot_place}
use Rattle.iddqd_order.specs.Node.{flat, Stop, AtIndex, InGap, Reaches, ReachesGap, place, place_at_level, IsFullBelow}
use Rattle.iddqd_order.specs.Search.{SearchesWithin, Searches}
use Rattle.iddqd_order.specs.Digits.{row_asks}

-- the level at which a walk ends: that of the index, or else 0, that of the leaves
abbrev pub level_of : Result ℕ ℕ → ℕ
level_of (Ok l) = l
level_of (Err k) = 0

-- how often a walk from the root asks at most
abbrev pub walk_asks : Option Node → ℕ → ℕ
walk_asks None h = 0
walk_asks (Some n) h = row_asks * (h + 1)

-- whether a walk ends at an index or in a gap
abbrev pub stop_of : Result ℕ ℕ → Stop
stop_of (Ok l) = AtIndex
stop_of (Err k) = InGap

-- the same end, with the place i of its index or gap in the whole list in place of a level or a count
abbrev pub end_at : Result ℕ ℕ → ℕ → Result ℕ ℕ
end_at (Ok l) i = Ok i
end_at (Err k) i = Err i

-- the end of a search of a table, with the place of its index or gap in the whole list
abbrev pub end_in : Order → Result Spot Gap → Result ℕ ℕ
end_in t (Ok spot) = Ok (spot_place t spot)
end_in t (Err gap) = Err (gap_place t gap)

-- the index at which a search ends
abbrev pub index_at : List ℕ → Result ℕ ℕ → Option ℕ
index_at xs (Ok i) = Some (slice_index xs i)
index_at xs (Err i) = None

-- A walk down the tree n, which has h levels above its leaves, or down the tree of a table t. `read` turns an answer
-- into an `Ordering`.
module _ {F R : Type 0} (g : Mut F (ℕ × Unit {0}) R) (read : R → Ordering) (sought : Option ℕ) where
  -- The walk asks at most `limit` times and writes the path p. It ends at an index, with its level; or else in a gap
  -- of a leaf, with the number of full nodes at the lower end of the path. If all h + 1 nodes on the path are full,
  -- that number is `full`: h + 1 for a whole tree, and more for a part of one if the nodes above it are full too.
  pub record Descends (limit full h : ℕ) (n : Node) (old : Asking F) (p : List ℕ) (end : Result ℕ ℕ) (new : Asking F)
      : Type 0 where
    pub searches : SearchesWithin g read (flat h n) limit sought old
        (end_at end (place_at_level (level_of end) h n p)) new
    pub reaches : Reaches (stop_of end) (level_of end) h n p
    pub lower_end : IfErr end (λ k. IsFullBelow k h n p × (h < k → k ≡ full))

  -- the walk asks at most four times a level and writes the path p, which goes to a gap
  pub record Seeks (h : ℕ) (n : Node) (old : Asking F) (p : List ℕ) (new : Asking F) : Type 0 where
    pub searches : SearchesWithin g read (flat h n) (row_asks * (h + 1)) sought old (Err (place h n p)) new
    pub reaches : ReachesGap h n p

  -- the walk asks at most four times a level, and ends at the index `found`, or in a gap if that is `None`
  pub record FindsIn (h : ℕ) (n : Node) (old : Asking F) (found : Option ℕ) (new : Asking F) : Type 0 where
    pub end : Result ℕ ℕ
    pub searches : SearchesWithin g read (flat h n) (row_asks * (h + 1)) sought old end new
    pub index : found ≡ index_at (flat h n) end

  -- the walk is a search of all indexes of t: it ends at the spot of an index, or else in a gap
  pub record EndsIn (t : Order) (old : Asking F) (end : Result Spot Gap) (new : Asking F) : Type 0 where
    pub searches : Searches g read (order_of t) sought old (end_in t end) new
    pub holds : IfOk end (IsSpot t)
    pub fits : IfErr end (Fits t)
