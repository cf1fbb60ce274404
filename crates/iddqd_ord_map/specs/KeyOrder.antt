-- The items of a map in the order of their keys.
use Rattle.std.specs.Prelude.{◌≡◌, ◌≢◌, ◌<◌, ◌↔◌, ℕ, Bool, true, List, map, Option, Some, None, slice_get}
use Rattle.std.specs.List.{Contains}
use Rattle.std.specs.declared.cmp.Ordering.{Ordering}
use Rattle.std.specs.declared.cmp.Ordering.TheVariants.{Less}
use Rattle.iddqd.specs.Store.{Store, get, live_count, removed}
use Rattle.iddqd_map.specs.Map.{MapState}

module _ {T K : Type 0} (key_of : T → K) (compare : K → K → Ordering) where
  -- The item is at the index, and no other item's key is beyond its key: with Less it has the least key, with Greater
  -- the greatest.
  pub record IsEnd (beyond : Ordering) (s : Store T) (ix : ℕ) (item : T) : Type 0 where
    pub live : get s ix ≡ Some item
    pub none_beyond : (j : ℕ) (other : T) → get s j ≡ Some other → compare (key_of other) (key_of item) ≢ beyond

  -- the item at an end; `None` if and only if there is no item
  abbrev pub FindsEnd : Ordering → Store T → Option T → Type 0
  FindsEnd beyond s (Some item) = (ix : ℕ) × IsEnd beyond s ix item
  FindsEnd beyond s None = live_count s ≡ 0

  -- the item at an end was removed
  pub record RemovesEnd (beyond : Ordering) (old : MapState T) (item : T) (new : MapState T) : Type 0 where
    pub ix : ℕ
    pub end : IsEnd beyond old.store ix item
    pub left : new.store ≡ removed old.store ix
    pub memory : new.memory ≡ old.memory

  -- what a removal at an end may return and leave
  abbrev pub PopsEnd : Ordering → MapState T → Option T → MapState T → Type 0
  PopsEnd beyond old (Some item) new = RemovesEnd beyond old item new
  PopsEnd beyond old None new = (live_count old.store ≡ 0) × (new ≡ old)

  -- The pairs are exactly the live indexes, with their items, whose keys pass; and the keys rise, so that each comes
  -- once.
  pub record IsWalkWithin (within : K → Bool) (s : Store T) (pairs : List (ℕ × T)) : Type 0 where
    pub live : (ix : ℕ) (item : T) →
        Contains pairs (ix, item) ↔ ((get s ix ≡ Some item) × (within (key_of item) ≡ true))
    pub rising : (i j : ℕ) (a b : ℕ × T) → i < j → slice_get pairs i ≡ Some a → slice_get pairs j ≡ Some b →
        compare (key_of a.1) (key_of b.1) ≡ Less

  -- the pairs are all live indexes with their items, in the order of the keys
  abbrev pub IsKeyWalk : Store T → List (ℕ × T) → Type 0
  IsKeyWalk s pairs = IsWalkWithin (λ _. true) s pairs

  -- all items, in the order of the keys
  abbrev pub AreInKeyOrder : Store T → List T → Type 0
  AreInKeyOrder s items = (pairs : List (ℕ × T)) × IsKeyWalk s pairs × (items ≡ map (λ pair. pair.1) pairs)
