-- What a handle holds before and after a function. If it holds no table of the kind, the function returns `HANDLE`, and
-- the handle holds what it held. Otherwise the function returns no `HANDLE`, which the relation `P` has to say. Keyed
-- items keep their kind.
use Rattle.std.specs.Prelude.{◌≡◌, ℕ, Bool, Option, Some}
use Rattle.iddqd_hash.specs.HashTable.{Table as Numbers}
use Rattle.iddqd_layer.specs.Layer.{Layer}
use Rattle.iddqd_map.specs.Map.{MapState}
use Rattle.iddqd_codes.specs.declared.TheConstants.{HANDLE}
use Rattle.iddqd_c.specs.Keys.{has_second, never}
use Rattle.iddqd_c.specs.declared.entry.Entry.{Entry}
use Rattle.iddqd_c.specs.declared.table.Table.{Table}
use Rattle.iddqd_c.specs.declared.table.Table.TheVariants.{Unique, Shared, Index}
use Rattle.iddqd_c.specs.declared.table.Table.TheVariants.{Layer as Records}

-- keyed items with their memory
abbrev pub Items : Type 0
Items = MapState Entry

-- which entries stand in the way of another one with a second key: those that have it, or none if several items may
-- share it
abbrev pub Taken : Type 0
Taken = ℕ → Entry → Bool

-- the handle holds items of which no two share a second key, and this holds of them
abbrev pub HoldsUnique : (Items → Type 0) → Option Table → Type 0
HoldsUnique P (Some (Unique keyed)) = P keyed.entries
HoldsUnique P held = ⊥

-- the same of items of which several may share a second key
abbrev pub HoldsShared : (Items → Type 0) → Option Table → Type 0
HoldsShared P (Some (Shared keyed)) = P keyed.entries
HoldsShared P held = ⊥

-- a function that reads keyed items, by what stands in the way of a second key
abbrev pub ReadsEach : (Taken → Items → Type 0) → Option Table → ℕ → Type 0
ReadsEach P (Some (Unique keyed)) code = P has_second keyed.entries
ReadsEach P (Some (Shared keyed)) code = P never keyed.entries
ReadsEach P held code = code ≡ HANDLE

-- a function that changes keyed items, by what stands in the way of a second key
abbrev pub ChangesEach : (Taken → Items → Items → Type 0) → Option Table → ℕ → Option Table → Type 0
ChangesEach P (Some (Unique keyed)) code after = HoldsUnique (P has_second keyed.entries) after
ChangesEach P (Some (Shared keyed)) code after = HoldsShared (P never keyed.entries) after
ChangesEach P held code after = (code ≡ HANDLE) × (after ≡ held)

-- a function that reads keyed items of both kinds alike
abbrev pub ReadsKeyed : (Items → Type 0) → Option Table → ℕ → Type 0
ReadsKeyed P = ReadsEach (λ taken. P)

-- a function that changes keyed items of both kinds alike
abbrev pub ChangesKeyed : (Items → Items → Type 0) → Option Table → ℕ → Option Table → Type 0
ChangesKeyed P = ChangesEach (λ taken. P)

-- the handle holds an index, and this holds of it
abbrev pub HoldsIndex : (Numbers ℕ → Type 0) → Option Table → Type 0
HoldsIndex P (Some (Index numbers)) = P numbers
HoldsIndex P held = ⊥

-- a function that reads an index
abbrev pub ReadsIndex : (Numbers ℕ → Type 0) → Option Table → ℕ → Type 0
ReadsIndex P (Some (Index numbers)) code = P numbers
ReadsIndex P held code = code ≡ HANDLE

-- a function that changes an index
abbrev pub ChangesIndex : (Numbers ℕ → Numbers ℕ → Type 0) → Option Table → ℕ → Option Table → Type 0
ChangesIndex P (Some (Index numbers)) code after = HoldsIndex (P numbers) after
ChangesIndex P held code after = (code ≡ HANDLE) × (after ≡ held)

-- the handle holds a layer, and this holds of it
abbrev pub HoldsLayer : (Layer → Type 0) → Option Table → Type 0
HoldsLayer P (Some (Records layer)) = P layer
HoldsLayer P held = ⊥

-- a function that reads a layer
abbrev pub ReadsLayer : (Layer → Type 0) → Option Table → ℕ → Type 0
ReadsLayer P (Some (Records layer)) code = P layer
ReadsLayer P held code = code ≡ HANDLE

-- a function that changes a layer
abbrev pub ChangesLayer : (Layer → Layer → Type 0) → Option Table → ℕ → Option Table → Type 0
ChangesLayer P (Some (Records layer)) code after = HoldsLayer (P layer) after
ChangesLayer P held code after = (code ≡ HANDLE) × (after ≡ held)
