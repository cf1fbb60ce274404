-- What holds of the table of a vacant entry.
use Rattle.std.specs.Prelude.{◌≡◌, ◌+◌, ◌≤◌, ℕ, length, max}
use Rattle.iddqd_hash.specs.HashTable.{Table, entries, room, memory}
use Rattle.iddqd_hash.specs.Sizes.{most_cells}

module _ {T : Type 0} where
  -- `under` is the hash of a vacant entry, and `new` its table, which has room for a pair. If there was room before,
  -- the table is as it was. Otherwise room was made, in no more memory than the pairs and one more need.
  pub record IsVacancy (hash : ℕ) (old : Table T) (under : ℕ) (new : Table T) : Type 0 where
    pub same_hash : under ≡ hash
    pub roomy : 1 ≤ room new
    pub had_room : 1 ≤ room old → new ≡ old
    pub room_stays : room old ≤ room new
    pub memory_stays : memory old ≤ memory new
    pub few : memory new ≤ max (memory old) (most_cells (length (entries old) + 1))
