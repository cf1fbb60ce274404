-- What a contract sees of a spot: where an index stands.
use Rattle.std.specs.Prelude.{◌≡◌, ◌≤◌, ℕ, List, Option, None, IfSome, length, slice_get, slice_index}
use Rattle.std.specs.Fn.{Mut}
use Rattle.std.specs.Option.{option_map}
use Rattle.std.specs.declared.cmp.Ordering.{Ordering}
use Rattle.std.specs.declared.ops.Bound.{Bound}
use Rattle.iddqd_order.specs.MapBTreeTable.{Order, order_of, IsSpot, spot_place}
use Rattle.iddqd_order.specs.Node.{ReachesIndex, flat, place, place_at_level}
use Rattle.iddqd_order.specs.Range.{Begins}
use Rattle.iddqd_order.specs.Search.{SearchAsks}
use Rattle.iddqd_order.specs.declared.btree_table.asking.Asking.{Asking}
use Rattle.iddqd_order.specs.declared.btree_table.node.Node.{Node}
use Rattle.iddqd_order.specs.declared.btree_table.spot.Spot.{Spot}

-- the index at the spot
abbrev pub spot_index : Order → Spot → ℕ
spot_index t spot = slice_index (order_of t) (spot_place t spot)

-- the index ix stands at the spot
pub record StandsAt (t : Order) (spot : Spot) (ix : ℕ) : Type 0 where
  pub is_spot : IsSpot t spot
  pub index : spot_index t spot ≡ ix

-- ix is the index behind the gap to which p goes, and stands at this level
pub record StandsBehind (h : ℕ) (n : Node) (p : List ℕ) (ix level : ℕ) : Type 0 where
  pub holds : ReachesIndex level h n p
  pub place_is : place_at_level level h n p ≡ place h n p
  pub index : ix ≡ slice_index (flat h n) (place h n p)

-- A search for the first index within a lower bound: it is the one at the position where a walk with that bound begins.
module _ {F R : Type 0} (g : Mut F (ℕ × Unit {0}) R) (t : Order) (lower : Bound (R → Ordering)) where
  pub record FindsFrom (old : Asking F) (found : Option (ℕ × Spot)) (new : Asking F) : Type 0 where
    pub asked : SearchAsks g (order_of t) None old new
    pub place : ℕ
    pub within : place ≤ length (order_of t)
    pub begins : Begins g (order_of t) lower old place
    pub index : option_map (λ (r : ℕ × Spot). r.0) found ≡ slice_get (order_of t) place
    pub spot : IfSome found (λ r. StandsAt t r.1 r.0)
    pub place_is : IfSome found (λ r. spot_place t r.1 ≡ place)
