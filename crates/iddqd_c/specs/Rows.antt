-- What C reads of entries, and how an answer stands in a code and a row.
use Rattle.std.specs.Prelude.{◌≡◌, ◌⊎◌, ◌≤◌, ◌<◌, ℕ, List, [], ◌∷◌, ⊤, Option, Some, None, map, take, drop, ◌++◌, length, min}
use Rattle.iddqd.specs.Store.{sentinel}
use Rattle.iddqd_codes.specs.declared.TheConstants.{OK, MISSING, SMALL}
use Rattle.iddqd_c.specs.declared.entry.Entry.{Entry}
use Rattle.iddqd_c.specs.declared.entry.Row.{Row}

-- the row of an entry at an index
abbrev pub row_of : ℕ → Entry → Row
row_of ix entry = record { second = entry.second; value = entry.value; index = ix }

-- the code and the row say which entry is at the index: `OK` and its row, or `MISSING` for none
abbrev pub SaysRow : ℕ → Row → ℕ → Option Entry → Type 0
SaysRow code row ix (Some entry) = (code ≡ OK) × (row ≡ row_of ix entry)
SaysRow code row ix None = code ≡ MISSING

-- the row for no entry: its index is `SENTINEL`
abbrev pub no_row : Row
no_row = record { second = 0; value = 0; index = sentinel }

-- an index that may be none, as a number: `SENTINEL` is none
abbrev pub number_of : Option ℕ → ℕ
number_of (Some ix) = ix
number_of None = sentinel

-- the two lists are equally long, and this holds of their elements at each place
abbrev pub AreAlike : {X Y : Type 0} → (X → Y → Type 0) → List X → List Y → Type 0
AreAlike P [] [] = ⊤
AreAlike P (x ∷ xs) (y ∷ ys) = P x y × AreAlike P xs ys
AreAlike P xs ys = ⊥

-- The rows of the first of these entries stand in a buffer, as many as it has places for, and the places behind them
-- are as they were.
pub record FillsRows (pairs : List (ℕ × Entry)) (count : ℕ) (was rows : List Row) : Type 0 where
  pub counted : count ≡ min (length was) (length pairs)
  pub filled : rows ≡ map (λ (p : ℕ × Entry). row_of p.0 p.1) (take count pairs) ++ drop count was

-- Bytes stand at the start of a buffer, if it has places for all of them, and the places behind them stay. Otherwise
-- the code is `SMALL`. Their number is written in any case.
abbrev pub CopiesBytes : List ℕ → ℕ → ℕ → List ℕ → List ℕ → Type 0
CopiesBytes bytes code count was buffer =
    (count ≡ length bytes)
    × ((code ≡ OK) × (length bytes ≤ length was) × (buffer ≡ bytes ++ drop (length bytes) was)
    ⊎ (code ≡ SMALL) × (length was < length bytes))
