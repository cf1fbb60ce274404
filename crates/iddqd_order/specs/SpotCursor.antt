-- Where a spot cursor stands, and how it steps from one index to the next.
use Rattle.std.specs.Prelude.{◌≡◌, ℕ, ◌+◌, ◌<◌, ◌≤◌, List, Option, Some, None, length}
use Rattle.iddqd_order.specs.declared.btree_table.node.Node.{Node}
use Rattle.iddqd_order.specs.declared.btree_table.spot_cursor.SpotCursor.{SpotCursor}
use Rattle.iddqd_order.specs.Node.{flat, ReachesIndex, place_at_level}
use Rattle.iddqd_order.specs.Shape.{most_levels}

-- A step from the index to which the path p goes at level l. With `Some m` the path q goes to the next index, at level
-- m. With `None` there is no further index below n.
abbrev pub StepsToNext : ℕ → Node → ℕ → List ℕ → Option ℕ → List ℕ → Type 0
StepsToNext h n l p None q = length (flat h n) ≡ place_at_level l h n p + 1
StepsToNext h n l p (Some m) q = ReachesIndex m h n q × (place_at_level m h n q ≡ place_at_level l h n p + 1)

-- the cursor's path goes, at its level, to the index at its place, if the place isn't the end of the list
pub record IsSpotCursor (h : ℕ) (n : Node) (w : SpotCursor) : Type 0 where
  pub path : length w.spot.path ≡ most_levels
  pub within : w.place ≤ length (flat h n)
  pub holds : w.place < length (flat h n) → ReachesIndex w.spot.level h n w.spot.path
  pub leads : w.place < length (flat h n) → place_at_level w.spot.level h n w.spot.path ≡ w.place

-- the tree m has as many indexes as n, and each path that goes to an index of n goes to the index at the same place in
-- m
pub record SamePlaces (h : ℕ) (n m : Node) : Type 0 where
  pub long : length (flat h m) ≡ length (flat h n)
  pub at : (l : ℕ) (p : List ℕ) → ReachesIndex l h n p →
      ReachesIndex l h m p × (place_at_level l h m p ≡ place_at_level l h n p)
