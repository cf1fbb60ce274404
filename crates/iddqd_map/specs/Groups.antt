-- The items that pass a test, as those that share a key: one of them, all of them, and how many there are.
use Rattle.std.specs.Prelude.{◌≡◌, ◌↔◌, ℕ, Bool, List, [], ◌∷◌, Option, Some, None, length, nat_eq}
use Rattle.std.specs.List.{Contains, IsDistinct}
use Rattle.iddqd.specs.Store.{Store}
use Rattle.iddqd_keys.specs.Scan.{IsHit, HasNoHit}

-- the index that comes next, if one does, and those behind it
abbrev pub listed_from : (ℕ → List ℕ) → Option ℕ → List ℕ
listed_from behind None = []
listed_from behind (Some ix) = ix ∷ behind ix

module _ {T : Type 0} where
  -- a live index whose item passes; `None` if and only if no item does
  abbrev pub FindsSome : Store T → (T → Bool) → Option ℕ → Type 0
  FindsSome s test (Some ix) = IsHit s test ix
  FindsSome s test None = HasNoHit s test

  -- these are exactly the live indexes whose items pass, each once, in any order
  pub record AreHits (s : Store T) (test : T → Bool) (indexes : List ℕ) : Type 0 where
    pub each : (ix : ℕ) → Contains indexes ix ↔ IsHit s test ix
    pub once : IsDistinct nat_eq indexes

  -- `count` items pass
  abbrev pub CountsHits : Store T → (T → Bool) → ℕ → Type 0
  CountsHits s test count = (indexes : List ℕ) × AreHits s test indexes × (count ≡ length indexes)
