-- How a set reserves memory, and gives it back.
use Rattle.std.specs.Prelude.{◌≡◌, ◌+◌, ◌-◌, ◌*◌, ◌<◌, ◌≤◌, ℕ, min, max, Result, IsOk, OnOk, OnErr}
use Rattle.iddqd.specs.Store.{Store, slot_count, live_count}
use Rattle.iddqd.specs.ItemSet.{SizedStore}

module _ {T : Type 0} where
  -- how many more items there can be
  abbrev pub insertable : Store T → ℕ
  insertable s = s.limit - live_count s

  -- the capacity after memory is taken because `needed` slots are needed: twice the old one if that is more, but then
  -- at most the limit
  abbrev pub grown : ℕ → SizedStore T → ℕ
  grown needed h = max needed (min h.store.limit (2 * h.capacity))

  -- the capacity after an insert took memory: twice the old one, at least four, and at most the limit
  abbrev pub doubled : SizedStore T → ℕ
  doubled h = min h.store.limit (max 4 (2 * h.capacity))

  -- If the memory held `additional` more slots already, it succeeds and nothing changes. Otherwise it succeeds and the
  -- capacity is what `grown` says, or it fails and nothing changes.
  pub record ReservesSlots {A E : Type 0} (additional : ℕ)
      (old : SizedStore T) (result : Result A E) (new : SizedStore T) : Type 0 where
    pub contents : new.store ≡ old.store
    pub capacity_at_least : old.capacity ≤ new.capacity
    pub reserved : OnOk result (slot_count old.store + additional ≤ new.capacity)
    pub grows :
        OnOk result (old.capacity < slot_count old.store + additional → new.capacity ≡ grown
        (slot_count old.store + additional) old)
    pub refused : OnErr result (new ≡ old)
    pub fitted : slot_count old.store + additional ≤ old.capacity → IsOk result × (new ≡ old)

  -- The capacity falls to `least` slots, or to the slots that there are if these are more. If it fails, the capacity
  -- stays above that; it can't fail if that is 0. The contents stay in either case.
  pub record Shrinks {A E : Type 0} (least : ℕ)
      (old : SizedStore T) (result : Result A E) (new : SizedStore T) : Type 0 where
    pub contents : new.store ≡ old.store
    pub never_more : new.capacity ≤ old.capacity
    pub never_less : min old.capacity (max least (slot_count old.store)) ≤ new.capacity
    pub shrunk : OnOk result (new.capacity ≡ min old.capacity (max least (slot_count old.store)))
    pub refused : OnErr result (max least (slot_count old.store) < new.capacity)
    pub succeeds : max least (slot_count old.store) ≡ 0 → IsOk result
