-- The live items of a store by rising index, as its iterators return them.
use Rattle.std.specs.Prelude.{◌≡◌, ◌≢◌, ◌+◌, ◌<◌, ◌↔◌, ℕ, List, [], ◌∷◌, Option, Some, None, slice_get, slice_index_or, filter_map}
use Rattle.std.specs.List.{Contains}
use Rattle.iddqd.specs.Store.{Store, get}

module _ {T : Type 0} where
  -- the items of these slots, each with its index; the first slot has this index
  abbrev pub pairs_from : ℕ → List (Option T) → List (ℕ × T)
  pairs_from ix [] = []
  pairs_from ix (None ∷ rest) = pairs_from (ix + 1) rest
  pairs_from ix (Some item ∷ rest) = (ix, item) ∷ pairs_from (ix + 1) rest

  -- the live indexes and their items, by rising index
  abbrev pub live_pairs : Store T → List (ℕ × T)
  live_pairs s = pairs_from 0 s.items

  -- the items of the slots that have one
  abbrev pub items_in : List (Option T) → List T
  items_in slots = filter_map (λ slot. slot) slots

  -- the items, by rising index
  abbrev pub live_items : Store T → List T
  live_items s = items_in s.items

  -- the pairs are exactly the live indexes with their items, and the indexes rise, so that each comes once
  pub record IsWalkOf (s : Store T) (pairs : List (ℕ × T)) : Type 0 where
    pub live : (ix : ℕ) (item : T) → Contains pairs (ix, item) ↔ (get s ix ≡ Some item)
    pub rising : (i j : ℕ) (a b : ℕ × T) → i < j → slice_get pairs i ≡ Some a → slice_get pairs j ≡ Some b → a.0 < b.0

  -- the item that is left at an index of slots that are emptied, if there is one
  abbrev pub item_at : List (Option T) → ℕ → Option T
  item_at slots ix = slice_index_or slots ix None

  -- the item at every index but this one is unchanged
  abbrev pub KeepsOtherItems : ℕ → List (Option T) → List (Option T) → Type 0
  KeepsOtherItems ix old new = (other : ℕ) → other ≢ ix → item_at new other ≡ item_at old other
