-- What calls leave that drop some of the items.
use Rattle.std.specs.Prelude.{◌≡◌, ℕ, Some, None}
use Rattle.iddqd.specs.Store.{Store, get}

-- The items of which this holds are gone, all others stay under their indexes, and no vacant index has an item now.
pub record Drops {T : Type 0} (IsDropped : T → Type 0) (old new : Store T) : Type 0 where
  pub gone : (ix : ℕ) (item : T) → get old ix ≡ Some item → IsDropped item → get new ix ≡ None
  pub others_stay : (ix : ℕ) (item : T) → get old ix ≡ Some item → (IsDropped item → ⊥) → get new ix ≡ Some item
  pub no_new : (ix : ℕ) → get old ix ≡ None → get new ix ≡ None
