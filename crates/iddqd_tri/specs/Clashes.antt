-- At most three indexes in order, held in three options.
use Rattle.std.specs.Prelude.{◌≡◌, ◌⊎◌, ◌<◌, ℕ, List, [], ◌∷◌, Option, Some, filter_map}
use Rattle.iddqd_tri.specs.declared.clashes.Clashes.{Clashes}

-- if the second index is there, so is the first, and the first is less
abbrev pub IsBefore : Option ℕ → Option ℕ → Type 0
IsBefore one other = (y : ℕ) → other ≡ Some y → (x : ℕ) × (one ≡ Some x) × (x < y)

-- one of the options holds the index
abbrev pub IsOneOfTwo : Option ℕ → Option ℕ → ℕ → Type 0
IsOneOfTwo one other ix = (one ≡ Some ix) ⊎ (other ≡ Some ix)

abbrev pub IsOneOf : Option ℕ → Option ℕ → Option ℕ → ℕ → Type 0
IsOneOf first second third ix = (first ≡ Some ix) ⊎ IsOneOfTwo second third ix

pub record AreInOrder (first second third : Option ℕ) : Type 0 where
  pub first_second : IsBefore first second
  pub second_third : IsBefore second third

-- the indexes that the options hold
abbrev pub clashing : Clashes → List ℕ
clashing c = filter_map (λ ix. ix) (c.first ∷ c.second ∷ c.third ∷ [])
