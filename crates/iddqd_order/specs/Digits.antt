-- How many asks a search may take.
use Rattle.std.specs.Prelude.{ℕ, zero, suc, ◌+◌, ◌*◌, ◌/◌}

-- the number of binary digits of n, but at most k
abbrev pub digits_within : ℕ → ℕ → ℕ
digits_within zero n = 0
digits_within (suc k) zero = 0
digits_within (suc k) (suc n) = 1 + digits_within k (suc n / 2)

-- the number of binary digits of n: 0 for 0, or else one more than that of n / 2
unfoldable pub digits : ℕ → ℕ
digits n = digits_within n n

-- the most asks of a search in one row
abbrev pub row_asks : ℕ
row_asks = 4

-- the most asks of a search in n indexes
abbrev pub bound : ℕ → ℕ
bound n = 4 + 2 * digits n
