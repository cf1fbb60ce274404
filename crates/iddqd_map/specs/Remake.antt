-- What a call that replaces an item by value may return, and what it leaves.
use Rattle.std.specs.Prelude.{◌≡◌, ◌<◌, ℕ, Bool, true, Option, Some, None, Result, Ok, Err}
use Rattle.std.specs.Fn.{Once}
use Rattle.iddqd.specs.Store.{Store, get, live_count, rebound, removed}
use Rattle.iddqd_keys.specs.Scan.{HasNoHit, AnswersScan}
use Rattle.iddqd_map.specs.Map.{MapState}
use Rattle.iddqd_map.specs.Several.{HasNoOther}
use Rattle.iddqd_map.specs.declared.refusal.InsertRefusal.{InsertRefusal}
use Rattle.iddqd_map.specs.declared.refusal.InsertRefusal.TheVariants.{Duplicate, Full, Memory}

module _ {T : Type 0} where
  -- the item at the index is gone, and all others stay; the counts of the memory stay
  pub record Vacates (old : MapState T) (ix : ℕ) (new : MapState T) : Type 0 where
    pub left : new.store ≡ removed old.store ix
    pub memory : new.memory ≡ old.memory

  -- `alike x y` says that the items share a unique key, and `may_need_memory` that an insert after a removal may need
  -- memory, if there are more items than the capacity
  module _ (alike : T → T → Bool) (may_need_memory : Bool) where
    -- the new item shares no unique key with another, and stands at the index; the counts of the memory stay
    pub record TakesPlace (old : MapState T) (ix : ℕ) (made : T) (new : MapState T) : Type 0 where
      pub no_other : HasNoOther old.store (alike made) ix
      pub left : new.store ≡ rebound old.store ix made
      pub memory : new.memory ≡ old.memory

    -- the new item shares no unique key with another, and there were more items than the tables can hold without more
    -- memory
    pub record LacksMemory (old : MapState T) (ix : ℕ) (made : T) : Type 0 where
      pub no_other : HasNoOther old.store (alike made) ix
      pub lacks : may_need_memory ≡ true
      pub past : old.memory.capacity < live_count old.store

    -- `conflicts s item at` says that `at` reports the items of the store that share a unique key with this one
    module _ {C : Type 0} (conflicts : Store T → T → C → Type 0) where
      -- what becomes of the item that was made in place of the one at the index
      abbrev pub Settles : MapState T → ℕ → T → Result ℕ (InsertRefusal T C) → MapState T → Type 0
      Settles old ix made (Ok at) new = (at ≡ ix) × TakesPlace old ix made new
      Settles old ix made (Err (Duplicate back at)) new =
          (back ≡ made) × conflicts (removed old.store ix) made at × Vacates old ix new
      Settles old ix made (Err (Full back)) new = ⊥
      Settles old ix made (Err (Memory back)) new = (back ≡ made) × LacksMemory old ix made × Vacates old ix new

      module _ {F : Type 0} (g : Once F (T × Unit {0}) T) (f : F) where
        -- f was called with the item at the index
        abbrev pub RemakesAt : MapState T → ℕ → Result ℕ (InsertRefusal T C) → MapState T → Type 0
        RemakesAt old ix result new =
            (was made : T) × (get old.store ix ≡ Some was) × g.post f (was, tt) made × Settles old ix made result new

        -- the same at an index that may be vacant: `Ok(None)` if and only if it is, and then nothing changes
        abbrev pub RemakesIfLive : MapState T → ℕ → Result (Option ℕ) (InsertRefusal T C) → MapState T → Type 0
        RemakesIfLive old ix (Ok None) new = (get old.store ix ≡ None) × (new ≡ old)
        RemakesIfLive old ix (Ok (Some at)) new = RemakesAt old ix (Ok at) new
        RemakesIfLive old ix (Err refusal) new = RemakesAt old ix (Err refusal) new

        -- the same for the one item that passes the test: `Ok(None)` if and only if none does
        abbrev pub Remakes : MapState T → (T → Bool) → Result (Option ℕ) (InsertRefusal T C) → MapState T → Type 0
        Remakes old test (Ok None) new = HasNoHit old.store test × (new ≡ old)
        Remakes old test (Ok (Some at)) new =
            (ix : ℕ) × AnswersScan old.store test (Some ix) × RemakesAt old ix (Ok at) new
        Remakes old test (Err refusal) new =
            (ix : ℕ) × AnswersScan old.store test (Some ix) × RemakesAt old ix (Err refusal) new
