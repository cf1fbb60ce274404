-- What the replacement of an entry by one with other keys answers and leaves.
use Rattle.std.specs.Prelude.{◌≡◌, ◌⊎◌, ℕ, List, Option, None, IsSome}
use Rattle.iddqd.specs.Store.{get, rebound}
use Rattle.iddqd_keys.specs.Scan.{IsLive}
use Rattle.iddqd_map.specs.Several.{AnswersOther, HasNoOther}
use Rattle.iddqd_codes.specs.declared.TheConstants.{OK, MISSING, DUPLICATE, MEMORY}
use Rattle.iddqd_c.specs.Held.{Items, Taken}
use Rattle.iddqd_c.specs.Keys.{IsEntry, has_first}
use Rattle.iddqd_c.specs.Rows.{number_of}
use Rattle.iddqd_c.specs.declared.entry.Conflict.{Conflict}
use Rattle.iddqd_c.specs.declared.entry.Entry.{Entry}

-- `taken second` says which entries stand in the way of another one with this second key
module _ (taken : Taken) (ix : ℕ) (bytes : List ℕ) (second : ℕ) where
  -- the index is live; no entry at another index has the first key, and none stands in the way of the second
  pub record IsAlone (m : Items) : Type 0 where
    pub live : IsLive m.store ix
    pub by_first : HasNoOther m.store (has_first bytes) ix
    pub by_second : HasNoOther m.store (taken second) ix

  -- the index is live; an entry at another index has the first key, or one stands in the way of the second, and the
  -- conflict says which
  pub record ReportsOthers (conflict : Conflict) (m : Items) : Type 0 where
    pub live : IsLive m.store ix
    pub first : Option ℕ
    pub other : Option ℕ
    pub first_number : conflict.first ≡ number_of first
    pub other_number : conflict.second ≡ number_of other
    pub some : IsSome first ⊎ IsSome other
    pub by_first : AnswersOther m.store (has_first bytes) ix first
    pub by_second : AnswersOther m.store (taken second) ix other

  module _ (value : ℕ) where
    -- an entry with these keys and this value stands in the place of the one at the index, and nothing else changed
    pub record ReplacesEntry (old new : Items) : Type 0 where
      pub entry : Entry
      pub is_entry : IsEntry bytes second value entry
      pub left : new.store ≡ rebound old.store ix entry
      pub memory : new.memory ≡ old.memory

    -- What a replacement answers and leaves, by its code. At `MEMORY` the copy of the first key was refused, or the
    -- ordered table had no memory for a new second key.
    abbrev pub Replaces : ℕ → Conflict → Items → Items → Type 0
    Replaces code conflict old new =
        ((code ≡ OK) × IsAlone old × ReplacesEntry old new)
        ⊎ ((code ≡ MISSING) × (get old.store ix ≡ None) × (new ≡ old))
        ⊎ ((code ≡ DUPLICATE) × ReportsOthers conflict old × (new ≡ old))
        ⊎ ((code ≡ MEMORY) × IsAlone old × (new ≡ old))
