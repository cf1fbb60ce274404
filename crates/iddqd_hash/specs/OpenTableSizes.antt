-- How many cells a table with open addressing needs, and shrinks to.
use lib.Dec.{leb}
use Rattle.std.specs.Prelude.{◌*◌, ◌<◌, ◌≤◌, ℕ, zero, suc, if◌then◌else◌}
use Rattle.iddqd_hash.specs.OpenTable.{usable_of, IsPowerOfTwo}

-- `count` cells are fewer than `current` ones, and have room for `pairs` pairs
pub record FewerCells (pairs current count : ℕ) : Type 0 where
  pub power : IsPowerOfTwo count
  pub fits : pairs ≤ usable_of count
  pub fewer : count < current

-- the number of cells, doubled until it has room for `pairs` pairs, but at most `times` times
abbrev pub doubled : ℕ → ℕ → ℕ → ℕ
doubled zero count pairs = count
doubled (suc times) count pairs = if leb pairs (usable_of count) then count else doubled times (2 * count) pairs

-- The least number of cells that has room for `pairs` pairs: none for no pair, otherwise a power of two from 16 on.
unfoldable pub least_cells : ℕ → ℕ
least_cells zero = 0
least_cells (suc pairs) = doubled (suc pairs) 16 (suc pairs)
