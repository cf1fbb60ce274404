-- A registry as the list of its names.
use Rattle.std.specs.Prelude.{◌≡◌, ◌≢◌, ℕ, List, [], ◌∷◌, length, Contains, Option, Some, None, slice_get}
use Rattle.std.specs.String.{string_bytes}
use Rattle.iddqd_maps.specs.Store.{Store, slot_limit}
use Rattle.uses.specs.declared.registry.Entry.{Entry}
use Rattle.uses.specs.declared.registry.RegisterError.{RegisterError}
use Rattle.uses.specs.declared.registry.RegisterError.TheVariants.{Taken, Full, Memory}

-- the names of the entries, in the order of their slots
abbrev pub names_of : List (Option Entry) → List (List ℕ)
names_of [] = []
names_of (Some entry ∷ rest) = string_bytes entry.name ∷ names_of rest
names_of (None ∷ rest) = names_of rest

-- each slot has an entry, none is free, and there may be as many slots as there are indexes
pub record IsDense (s : Store Entry) : Type 0 where
  pub none_free : s.free ≡ []
  pub all_named : length (names_of s.items) ≡ length s.items
  pub unlimited : s.limit ≡ slot_limit

-- Why a name wasn't registered: it has the number that is returned; or it is new, and there are as many names as
-- numbers; or it is new, and there are not.
abbrev pub TellsWhy : List (List ℕ) → List ℕ → RegisterError → Type 0
TellsWhy names name (Taken number) = slice_get names number ≡ Some name
TellsWhy names name Full = (Contains names name → ⊥) × (length names ≡ slot_limit)
TellsWhy names name Memory = (Contains names name → ⊥) × (length names ≢ slot_limit)
