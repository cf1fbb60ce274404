-- What a full row of indexes is split into.
use Rattle.std.specs.Prelude.{◌≡◌, ℕ, ◌+◌, ◌<◌, ◌≤◌, List, ◌∷◌, ◌++◌, length}
use Rattle.std.specs.List.{insert}
use Rattle.iddqd_order.specs.Shape.{most_in_row, least_in_row}

-- the full list xs, with x inserted at place i, is split into the lists `low` and `high` about the index m
pub record IsSplit (xs : List ℕ) (i x : ℕ) (low : List ℕ) (m : ℕ) (high : List ℕ) : Type 0 where
  pub is : low ++ m ∷ high ≡ insert xs i x
  pub low_length : (i ≤ least_in_row → length low ≡ least_in_row) × (least_in_row < i → length low ≡ least_in_row + 1)
  pub high_length : length low + length high ≡ most_in_row
