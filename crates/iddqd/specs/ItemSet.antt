-- What a contract sees of an `ItemSet`: its store, and how many slots its memory holds.
use Rattle.std.specs.Prelude.{◌≡◌, ◌≢◌, ◌+◌, ◌-◌, ◌<◌, ℕ, length, min, refl}
use Rattle.std.specs.Coded.{Coded, code_by, coded×, coded_ℕ}
use Rattle.iddqd.specs.Store.{Store, store_code, slot_count, live_count, get, rebound}

-- a store, and the number of slots that fit without more memory, which is no part of the contents
pub record SizedStore (T : Type 0) : Type 0 where
  pub store : Store T
  pub capacity : ℕ

-- a store with its capacity is coded if its items are
abbrev pub sized_store_code : {T : Type 0} → Coded T → Coded (SizedStore T)
sized_store_code {T} code =
    code_by
    (Store T × ℕ)
    (coded× (store_code code) coded_ℕ)
    (λ h. (h.store, h.capacity))
    (λ p. record { store = p.0; capacity = p.1 })
    (λ _. refl)

module _ {T : Type 0} where
  -- how many inserts need no memory
  abbrev pub room : SizedStore T → ℕ
  room h = length h.store.free + (min h.capacity h.store.limit - slot_count h.store)

  -- the item at every index but this one is unchanged
  abbrev pub KeepsOthers : ℕ → Store T → Store T → Type 0
  KeepsOthers ix old new = (other : ℕ) → other ≢ ix → get new other ≡ get old other

  -- the slot count rises only if no slot is vacant, and then by one
  pub record GrowsIfDense (old new : Store T) : Type 0 where
    pub dense : live_count old ≡ slot_count old → slot_count new ≡ slot_count old + 1
    pub vacant : live_count old < slot_count old → slot_count new ≡ slot_count old

  -- the set with the item at an index replaced, in the same memory
  abbrev pub with_item : SizedStore T → ℕ → T → SizedStore T
  with_item h ix item = record h { store = rebound h.store ix item }
