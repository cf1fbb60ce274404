-- Reads of a map in the order of a key.
use Rattle.std.specs.Prelude.{◌≡◌, ◌++◌, ℕ, Bool, true, List, [], ◌∷◌, Option, Some, None}
use Rattle.std.specs.Borrow.{Bor}
use Rattle.std.specs.declared.cmp.Ordering.{Ordering}
use Rattle.iddqd.specs.Store.{Store, live_count, removed}
use Rattle.iddqd_keys.specs.KeyWalk.{IsInPlace, pairs_at}
use Rattle.iddqd_map.specs.Groups.{AreHits}
use Rattle.iddqd_map.specs.Map.{MapState}
use Rattle.iddqd_map.specs.Ranges.{itself}

-- an index with the item to which a reference refers
abbrev pub shown : {T : Type 0} → ℕ × Bor T → ℕ × T
shown pair = (pair.0, pair.1.now)

-- `order` compares items
module _ {T : Type 0} (order : T → T → Ordering) where
  -- these are exactly the live indexes whose items are within, each once, in order; of equal items, by index
  pub record ListsInOrder (within : T → Bool) (s : Store T) (indexes : List ℕ) : Type 0 where
    pub hits : AreHits s within indexes
    pub placed : IsInPlace itself order s indexes

  -- the pairs are such indexes with their items
  pub record IteratesInOrder (within : T → Bool) (s : Store T) (pairs : List (ℕ × T)) : Type 0 where
    pub indexes : List ℕ
    pub listed : ListsInOrder within s indexes
    pub with_items : pairs ≡ pairs_at s indexes

  -- the first pair of an iteration over all items; `None` if and only if there is no item
  abbrev pub FindsFirst : Store T → Option (ℕ × T) → Type 0
  FindsFirst s (Some first) = (others : List (ℕ × T)) × IteratesInOrder (λ _. true) s (first ∷ others)
  FindsFirst s None = live_count s ≡ 0

  -- and the last one
  abbrev pub FindsLast : Store T → Option (ℕ × T) → Type 0
  FindsLast s (Some last) = (others : List (ℕ × T)) × IteratesInOrder (λ _. true) s (others ++ last ∷ [])
  FindsLast s None = live_count s ≡ 0

  -- What a removal of the first item may return and leave. It returns `None` if and only if there is no item, and then
  -- nothing changes.
  abbrev pub PopsFirst : MapState T → Option T → MapState T → Type 0
  PopsFirst old (Some item) new =
      (ix : ℕ) × FindsFirst old.store (Some (ix, item)) × (new.store ≡ removed old.store ix) × (new.memory ≡ old.memory)
  PopsFirst old None new = (live_count old.store ≡ 0) × (new ≡ old)

  -- and of the last one
  abbrev pub PopsLast : MapState T → Option T → MapState T → Type 0
  PopsLast old (Some item) new =
      (ix : ℕ) × FindsLast old.store (Some (ix, item)) × (new.store ≡ removed old.store ix) × (new.memory ≡ old.memory)
  PopsLast old None new = (live_count old.store ≡ 0) × (new ≡ old)
