-- The items of a store at listed indexes.
use Rattle.std.specs.Prelude.{ℕ, List, Option, IsSome, filter_map, nat_eq}
use Rattle.std.specs.List.{Contains, IsDistinct}
use Rattle.iddqd.specs.LiveItems.{item_at}

module _ {T : Type 0} where
  -- the items of the slots at these indexes, in the order of the list
  abbrev pub items_of_slots : List (Option T) → List ℕ → List T
  items_of_slots slots order = filter_map (item_at slots) order

  -- the slots have an item at each of these indexes, and the indexes are distinct
  pub record AreThere (slots : List (Option T)) (order : List ℕ) : Type 0 where
    pub each : (ix : ℕ) → Contains order ix → IsSome (item_at slots ix)
    pub once : IsDistinct nat_eq order
