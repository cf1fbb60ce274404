-- A key that several items may have: by it no two items are alike, so that there is no conflict.
use Rattle.std.specs.Prelude.{◌≤◌, ℕ, Bool, false, List, [], length}
use Rattle.std.proofs.Common.{le_refl}
use Rattle.std.specs.List.{Contains}
use Rattle.iddqd.specs.Store.{Store}
use Rattle.iddqd_keys.specs.Scan.{AreApart, HasNoHit}

-- no two items are alike: none is refused for its key
abbrev pub never_alike : {T : Type 0} → T → T → Bool
never_alike x y = false

-- so no index has an item that another one is alike to, and a conflict names none
pub never_apart : {T : Type 0} (s : Store T) → AreApart never_alike s
never_apart s i j x y p q alike = absurd (cc)

pub never_hit : {T : Type 0} (s : Store T) (item : T) → HasNoHit s (never_alike item)
never_hit s item ix (x, is, alike) = absurd (cc)

pub none_named : (l : List ℕ) × (length l ≤ 0) × ((ix : ℕ) → ⊥ → Contains l ix)
none_named = ([], le_refl 0, λ ix is. absurd is)
