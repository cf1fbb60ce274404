-- For callers: what each step of a store leaves of its room.
use Rattle.std.proofs.Common.{◌≡◌, ◌+◌, ◌≤◌, ℕ, List, [], ◌∷◌, length, Option, Some, None, min, ap, arith, length-set}
use Rattle.std.proofs.lemmas.List.{length_push}
use Rattle.iddqd.specs.Store.{Store, IsValid, IsFull, slot_count, inserted, removed, cleared, rebound}
use Rattle.iddqd.specs.Compaction.{compacted}
use Rattle.iddqd.specs.ItemSet.{SizedStore, room}
use Rattle.iddqd.specs.Sizes.{insertable}
use Rattle.iddqd.proofs.CompactionLemmas.{slot_count-compacted}

module _ {T : Type 0} where
  -- this store in memory for so many slots
  abbrev sized : Store T → ℕ → SizedStore T
  sized s capacity = record { store = s; capacity = capacity }

  -- where the memory holds so many slots more, as many inserts need none, or as many as there can be
  pub room_ahead :
      (s : Store T) (capacity additional : ℕ)
      → IsValid s
      → slot_count s + additional ≤ capacity
      → min additional (insertable s) ≤ room (sized s capacity)
  room_ahead s capacity additional valid holds = omega (arith, valid.counted, valid.small)

  -- a store with room isn't full
  pub not_full : (s : Store T) (capacity : ℕ) → 1 ≤ room (sized s capacity) → IsFull s → ⊥
  not_full s capacity some full = omega (arith, ap length full.0, full.1)

  -- an insert takes one of it
  pub room-inserted :
      (s : Store T) (capacity : ℕ) (item : T)
      → 1 ≤ room (sized s capacity)
      → room (sized (inserted s item) capacity) + 1 ≡ room (sized s capacity)
  room-inserted s capacity item some = by_free s.items s.free some
    where
      by_free :
          (items : List (Option T)) (free : List ℕ)
          → 1 ≤ room (sized (record { items = items; free = free; limit = s.limit }) capacity)
          → room (sized (inserted (record { items = items; free = free; limit = s.limit }) item) capacity) + 1 ≡ room
          (sized (record { items = items; free = free; limit = s.limit }) capacity)
      by_free items [] some = omega (arith, length_push items (Some item))
      by_free items (ix ∷ rest) some = omega (arith, length-set items ix (Some item))

  -- a removal gives one back
  pub room-removed :
      (old new : SizedStore T) (ix : ℕ)
      → new ≡ record old { store = removed old.store ix }
      → room new ≡ room old + 1
  room-removed old new ix is = rw is (omega (arith, length-set old.store.items ix None))

  pub room-rebound :
      (s : Store T) (capacity ix : ℕ) (item : T)
      → room (sized (rebound s ix item) capacity) ≡ room (sized s capacity)
  room-rebound s capacity ix item = omega (arith, length-set s.items ix (Some item))

  -- clearing leaves all that the memory holds
  pub room-cleared :
      (s : Store T) (capacity : ℕ)
      → IsValid s
      → slot_count s ≤ capacity
      → room (sized s capacity) ≤ room (sized (cleared s) capacity)
  room-cleared s capacity valid holds = omega (arith, valid.counted, valid.small)

  -- compaction loses nothing
  pub room-compacted :
      (old new : SizedStore T)
      → IsValid old.store
      → slot_count old.store ≤ old.capacity
      → new ≡ record old { store = compacted old.store }
      → room new ≡ room old
  room-compacted old new valid holds is = rw is (omega (arith, valid.counted, valid.small, slot_count-compacted old.store))
