-- What the calls of a map that reserve memory or give it back may do with it.
use Rattle.std.specs.Prelude.{◌≡◌, ◌+◌, ◌*◌, ◌<◌, ◌≤◌, ◌⊎◌, ℕ, min, max, Result, IsOk, OnOk, OnErr}
use Rattle.iddqd.specs.Store.{slot_count, live_count}
use Rattle.iddqd_map.specs.Map.{MapState, MapMemory, insertable, room}

module _ {T : Type 0} (most : ℕ → ℕ) where
  -- What is taken so that there is room for one more item: nothing if there was room. Otherwise the slots grow to at
  -- most four or twice as many, whichever is more, and never past the limit, and the cells grow by at most what the
  -- number of all items and one more allows. Nothing is given back.
  pub record MakesRoom (old : MapState T) (new : MapMemory) : Type 0 where
    pub had_room : 1 ≤ room old → new ≡ old.memory
    pub slots_at_least : old.memory.slots ≤ new.slots
    pub capacity_at_least : old.memory.capacity ≤ new.capacity
    pub few_slots : new.slots ≤ max old.memory.slots (min old.store.limit (max 4 (2 * old.memory.slots)))
    pub few_cells : new.cells ≤ old.memory.cells + most (live_count old.store + 1)

  -- There is room for `additional` more items, or for as many as the limit allows. The slots become at most as many as
  -- all these items need, or twice as many as before, and the cells grow by at most as many as all these items need. If
  -- there was room, nothing changes. A refusal gives nothing back, and the items stay.
  pub record ReservesItems {A E : Type 0} (additional : ℕ) (old : MapState T) (result : Result A E) (new : MapState T)
      : Type 0 where
    pub store : new.store ≡ old.store
    pub reserved : OnOk result (insertable old additional ≤ room new)
    pub had_room : insertable old additional ≤ room old → IsOk result × (new ≡ old)
    pub slots_at_least : old.memory.slots ≤ new.memory.slots
    pub capacity_at_least : old.memory.capacity ≤ new.memory.capacity
    pub few_slots : new.memory.slots ≤ max old.memory.slots
        (min old.store.limit (max (live_count old.store + additional) (2 * old.memory.slots)))
    pub few_cells : new.memory.cells ≤ old.memory.cells + most (live_count old.store + insertable old additional)

-- The memory beyond what `least` items need, or the slots and items that there are, is given back: the tables keep at
-- most `kept` of these. A refusal means that there is more than is needed, and never comes if nothing is needed. The
-- items stay.
module _ {T : Type 0} (kept : ℕ → ℕ → ℕ) where
  pub record ShrinksItems {A E : Type 0} (least : ℕ) (old : MapState T) (result : Result A E) (new : MapState T)
      : Type 0 where
    pub store : new.store ≡ old.store
    pub slots_never_more : new.memory.slots ≤ old.memory.slots
    pub cells_never_more : new.memory.cells ≤ old.memory.cells
    pub slots_at_least : min old.memory.slots (max least (slot_count old.store)) ≤ new.memory.slots
    pub capacity_at_least : min old.memory.capacity (max least (live_count old.store)) ≤ new.memory.capacity
    pub slots_shrunk : OnOk result (new.memory.slots ≤ max least (slot_count old.store))
    pub cells_shrunk :
        OnOk result (new.memory.cells ≤ kept (max least (slot_count old.store)) (max least (live_count old.store)))
    pub refused : OnErr result ((max least (slot_count old.store) < new.memory.slots)
        ⊎ (max least (live_count old.store) < new.memory.cells))
    pub succeeds : max least (slot_count old.store) ≡ 0 → IsOk result

-- A shrink to `least` items is refused only if the memory then has more slots than these need and than there are, or
-- the tables more cells than the fewest that do for the slots, and for so many items or as many as there was room for.
abbrev pub HasMoreThanNeeded : {T : Type 0} → (needed : ℕ → ℕ → ℕ) → ℕ → (old new : MapState T) → Type 0
HasMoreThanNeeded needed least old new =
    let kept = min old.memory.capacity (max least (live_count old.store)) in
    (max least (slot_count old.store) < new.memory.slots)
    ⊎ (needed (max (slot_count old.store) kept) kept < new.memory.cells)
