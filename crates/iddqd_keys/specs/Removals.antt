-- Several items that are removed from a store one after the other, and the list in which they are returned.
use Rattle.std.specs.Prelude.{◌<◌, ℕ, zero, suc, List, [], ◌∷◌, Option, None}
use Rattle.std.specs.List.{Contains}
use Rattle.iddqd.specs.Store.{Store, removed}

-- each member is less than all behind it
abbrev pub IsIncreasing : List ℕ → Type 0
IsIncreasing [] = Unit {0}
IsIncreasing (x ∷ rest) = ((y : ℕ) → Contains rest y → x < y) × IsIncreasing rest

-- a list of exactly this length: the members of the given list, as far as they fit, and then `None`
abbrev pub padded : {T : Type 0} → ℕ → List (Option T) → List (Option T)
padded zero items = []
padded (suc n) [] = None ∷ padded n []
padded (suc n) (item ∷ rest) = item ∷ padded n rest

-- the store after the removal of these live indexes, one after the other
abbrev pub removed_all : {T : Type 0} → Store T → List ℕ → Store T
removed_all s [] = s
removed_all s (ix ∷ rest) = removed_all (removed s ix) rest
