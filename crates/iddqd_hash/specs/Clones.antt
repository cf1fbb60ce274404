-- What a clone of a slot is.
use Rattle.std.specs.Prelude.{◌≡◌, ℕ, Option, Some, None}

-- `is_clone v w` says that w may be a clone of v
module _ {T : Type 0} (is_clone : T → T → Type 0) where
  -- a slot with a clone of the value under the same hash; of a slot without a pair, one without a pair
  abbrev pub IsSlotClone : Option (ℕ × T) → Option (ℕ × T) → Type 0
  IsSlotClone None copy = copy ≡ None
  IsSlotClone (Some pair) copy = (value : T) × (copy ≡ Some (pair.0, value)) × is_clone pair.1 value
