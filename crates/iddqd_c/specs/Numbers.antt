-- What the functions on an index answer and leave. `entries` of its table are pairs of a hash and a number, as a bag.
use Rattle.std.specs.Prelude.{◌≡◌, ◌⊎◌, ◌+◌, ◌≤◌, ◌++◌, ℕ, List, [], ◌∷◌, length, max, take, drop}
use Rattle.std.specs.List.{Contains}
use Rattle.std.specs.List.Sorted.{IsPermutation}
use Rattle.iddqd_hash.specs.HashTable.{Table, HasNoMemory, KeepsMemory, UsesRoom, capacity, entries, memory, room, under}
use Rattle.iddqd_hash.specs.Sizes.{most_cells}
use Rattle.iddqd_codes.specs.declared.TheConstants.{OK, MISSING, MEMORY}

-- an empty index without memory
abbrev pub IsNew : Table ℕ → Type 0
IsNew table = (entries table ≡ []) × HasNoMemory table

-- What an insert leaves of the memory: with room it stays. Otherwise it is no less than before, and no more than one
-- more pair may need.
pub record TakesCells (old new : Table ℕ) : Type 0 where
  pub had_room : 1 ≤ room old → UsesRoom old new
  pub no_lower : capacity old ≤ capacity new
  pub memory_stays : memory old ≤ memory new
  pub few : memory new ≤ max (memory old) (most_cells (length (entries old) + 1))

-- an insert: one more pair, or there was no room, memory ran out, and nothing changes
abbrev pub Files : ℕ → ℕ → ℕ → Table ℕ → Table ℕ → Type 0
Files hash number code old new =
    ((code ≡ OK) × IsPermutation ((hash, number) ∷ entries old) (entries new) × TakesCells old new)
    ⊎ ((code ≡ MEMORY) × (room old ≡ 0) × (new ≡ old))

-- a removal: one such pair less, and room for one more in the same memory; or there is none and nothing changes
abbrev pub Unfiles : ℕ → ℕ → ℕ → Table ℕ → Table ℕ → Type 0
Unfiles hash number code old new =
    ((code ≡ OK) × IsPermutation (entries old) ((hash, number) ∷ entries new) × KeepsMemory old new
    × (room new ≡ room old + 1))
    ⊎ ((code ≡ MISSING) × (Contains (under hash (entries old)) number → ⊥) × (new ≡ old))

-- The numbers under a hash: how many there are, and in the buffer as many of them as it has places for, each once. The
-- places behind them stay as they were.
pub record ListsUnder (hash code count : ℕ) (was numbers : List ℕ) (table : Table ℕ) : Type 0 where
  pub done : code ≡ OK
  pub found : List ℕ
  pub each_once : IsPermutation (under hash (entries table)) found
  pub counted : count ≡ length found
  pub filled : numbers ≡ take (length was) found ++ drop (length found) was

-- a count
abbrev pub CountsPairs : ℕ → ℕ → Table ℕ → Type 0
CountsPairs code count table = (code ≡ OK) × (count ≡ length (entries table))

-- a clear: no pair is left, and the memory stays, with room in all of it
abbrev pub ClearsPairs : ℕ → Table ℕ → Table ℕ → Type 0
ClearsPairs code old new = (code ≡ OK) × (entries new ≡ []) × KeepsMemory old new
