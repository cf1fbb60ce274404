-- Which raw parts are sound, and what a validator returns for them.
use Rattle.std.specs.Prelude.{◌≡◌, ◌≢◌, ◌++◌, ◌<◌, ℕ, List, All, length, nat_eq, Result, Ok, Err, Some, slice_get, codes, ⊤}
use Rattle.std.specs.Fmt.{decimal}
use Rattle.std.specs.List.{Contains, IsDistinct}
use Rattle.std.specs.List.Sorted.{IsPermutation}
use Rattle.std.specs.String.{string_bytes}
use Rattle.iddqd.specs.declared.internal.ValidateCompact.{ValidateCompact}
use Rattle.iddqd.specs.declared.internal.ValidateCompact.TheVariants.{Compact, NonCompact}
use Rattle.iddqd.specs.declared.internal.ValidateRefusal.{ValidateRefusal}
use Rattle.iddqd.specs.declared.internal.ValidateRefusal.TheVariants.{Invalid, Memory}
use Rattle.iddqd.specs.declared.internal.ValidationError.{ValidationError}
use Rattle.iddqd.specs.declared.internal.ValidationError.TheVariants.{Table, General}
use Rattle.iddqd.specs.declared.item_set.ItemSlot.{ItemSlot}
use Rattle.iddqd.specs.declared.item_set.ItemSlot.TheVariants.{Vacant}
use Rattle.iddqd.specs.Compaction.{numbers}
use Rattle.iddqd.specs.Slots.{IsSound}
use Rattle.iddqd.specs.Store.{sentinel}

-- the mode allows this number of vacant slots
abbrev pub Allows : ValidateCompact → ℕ → Type 0
Allows Compact vacant = vacant ≡ 0
Allows NonCompact vacant = ⊤

-- slots, head and length are sound in a mode: for `Compact`, also no slot is vacant
abbrev pub IsSoundIn : {T : Type 0} → ValidateCompact → List (ItemSlot T) → ℕ → ℕ → Type 0
IsSoundIn Compact slots head len = IsSound slots head len × ((ix next : ℕ) → slice_get slots ix ≢ Some (Vacant next))
IsSoundIn NonCompact slots head len = IsSound slots head len

-- The indexes of a hash table are sound if they have the expected length and are distinct; for `Compact`, they are the
-- numbers below that length in any order.
abbrev pub AreSound : ValidateCompact → ℕ → List ℕ → Type 0
AreSound Compact expected indexes = (length indexes ≡ expected) × IsPermutation (numbers expected) indexes
AreSound NonCompact expected indexes = (length indexes ≡ expected) × IsDistinct nat_eq indexes

-- the same for the indexes of an ordered table, of which also none is `SENTINEL`
abbrev pub AreSoundInOrder : ValidateCompact → ℕ → List ℕ → Type 0
AreSoundInOrder mode expected indexes = AreSound mode expected indexes × (Contains indexes sentinel → ⊥)

-- what is left to check of indexes that are distinct and not `SENTINEL`
abbrev pub AreAsExpected : ValidateCompact → ℕ → List ℕ → Type 0
AreAsExpected Compact expected indexes = (length indexes ≡ expected) × All (λ ix. ix < expected) indexes
AreAsExpected NonCompact expected indexes = length indexes ≡ expected

-- the result of a check: unless memory ran out, it is `Ok` if and only if the parts are sound
abbrev pub Validates : {E : Type 0} → Type 0 → Result (Unit {0}) (ValidateRefusal E) → Type 0
Validates sound (Ok passed) = sound
Validates sound (Err (Invalid error)) = sound → ⊥
Validates sound (Err (Memory error)) = ⊤

-- memory ran out
abbrev pub IsMemory : {E : Type 0} → ValidateRefusal E → Type 0
IsMemory (Invalid error) = ⊥
IsMemory (Memory error) = ⊤

-- a refusal has this text, or memory for the text ran out
abbrev pub Tells : List ℕ → ValidateRefusal ValidationError → Type 0
Tells text (Invalid (General told)) = string_bytes told ≡ text
Tells text (Invalid (Table name error)) = ⊥
Tells text (Memory error) = ⊤

-- the text of the error if this number of slots is vacant and none may be
abbrev pub not_compact_text : ℕ → List ℕ
not_compact_text vacant = codes "ItemSet is not compact: " ++ decimal vacant ++ codes " vacant slots"

-- the text of an error
abbrev pub error_text : ValidationError → List ℕ
error_text (Table name error) = codes "validation error in table " ++ name.now ++ codes ": " ++ error
error_text (General text) = string_bytes text
