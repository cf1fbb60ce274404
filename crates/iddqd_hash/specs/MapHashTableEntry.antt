-- What a contract sees of an entry of a table of indexes.
use Rattle.std.specs.Prelude.{ℕ, Bool, Option, Result, Ok, Err}
use Rattle.std.specs.Borrow.{GName}
use Rattle.std.specs.Fn.{Shared}
use Rattle.iddqd_hash.specs.Asks.{HitsPair}
use Rattle.iddqd_hash.specs.Entries.{IsVacancy}
use Rattle.iddqd_hash.specs.HashTable.{Table, pair_at, value_of}
use Rattle.iddqd_hash.specs.MapHashTable.{filed, indexes_under, AsksEqual}
use Rattle.iddqd_hash.specs.declared.hash_table.OccupiedEntry.{OccupiedEntry}
use Rattle.iddqd_hash.specs.declared.hash_table.entry.Entry.{Entry}
use Rattle.iddqd_hash.specs.declared.hash_table.entry.Entry.TheVariants.{Occupied, Vacant}
use Rattle.iddqd_hash.specs.declared.hash_table.entry.VacantEntry.{VacantEntry}

-- the table that an entry borrows
abbrev pub entry_table : OccupiedEntry → Table ℕ
entry_table e = e.table.now

-- the ghost name of the reference to the table
abbrev pub entry_lender : OccupiedEntry → GName
entry_lender e = e.table.ghost_name

-- the hash and the index of the entry
unfoldable pub entry_pair : OccupiedEntry → Option (ℕ × ℕ)
entry_pair e = pair_at e.table.now e.place

-- the index of the entry
unfoldable pub entry_index : OccupiedEntry → Option ℕ
entry_index e = value_of (entry_pair e)

-- the table that a vacant entry borrows
abbrev pub vacant_table : VacantEntry → Table ℕ
vacant_table e = e.table.now

-- the ghost name of a vacant entry's reference to the table
abbrev pub vacant_lender : VacantEntry → GName
vacant_lender e = e.table.ghost_name

-- the hash under which a vacant entry inserts
unfoldable pub vacant_hash : VacantEntry → ℕ
vacant_hash e = e.hash

-- a look-up by a key, among the indexes of a table under a hash, hit the index of this entry
abbrev pub HitsEntry :
    {F K : Type 0} → Shared F (ℕ × Unit {0}) K → (K → K → Bool) → F → K → ℕ → Table ℕ → OccupiedEntry → Type 0
HitsEntry g eq lookup key hash t e =
    HitsPair (AsksEqual g eq lookup key) tt hash (indexes_under hash (filed t)) (entry_pair e)

-- a vacant entry under the hash, of the table that was `old` before the call
abbrev pub IsVacantUnder : ℕ → Table ℕ → VacantEntry → Type 0
IsVacantUnder hash old e = IsVacancy hash old (vacant_hash e) (vacant_table e)

-- the ghost name of the reference to the table, of either entry
abbrev pub lender_of : Entry → GName
lender_of (Occupied e) = entry_lender e
lender_of (Vacant e) = vacant_lender e

-- P holds of the entry, if the result is the entry of an index
abbrev pub IfOccupied : {E : Type 0} → Result Entry E → (OccupiedEntry → Type 0) → Type 0
IfOccupied (Ok (Occupied e)) P = P e
IfOccupied (Ok (Vacant e)) P = Unit {0}
IfOccupied (Err error) P = Unit {0}

-- P holds of the entry, if the result is a vacant one
abbrev pub IfVacant : {E : Type 0} → Result Entry E → (VacantEntry → Type 0) → Type 0
IfVacant (Ok (Occupied e)) P = Unit {0}
IfVacant (Ok (Vacant e)) P = P e
IfVacant (Err error) P = Unit {0}

-- P holds, unless the result is the entry of an index
abbrev pub UnlessOccupied : {E : Type 0} → Result Entry E → Type 0 → Type 0
UnlessOccupied (Ok (Occupied e)) P = Unit {0}
UnlessOccupied (Ok (Vacant e)) P = P
UnlessOccupied (Err error) P = P
