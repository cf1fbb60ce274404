-- What a contract sees of an entry of a table that implements `PairCells`.
use Rattle.std.specs.Prelude.{ℕ, Option, Result, Ok, Err}
use Rattle.std.specs.Borrow.{GName}
use Rattle.iddqd_hash.specs.HashTable.{Table, pair_at, value_of}
use Rattle.iddqd_hash.specs.declared.table_entry.Entry.{Entry}
use Rattle.iddqd_hash.specs.declared.table_entry.Entry.TheVariants.{Occupied, Vacant}
use Rattle.iddqd_hash.specs.declared.table_entry.OccupiedEntry.{OccupiedEntry}
use Rattle.iddqd_hash.specs.declared.table_entry.PairCells as cells
use Rattle.iddqd_hash.specs.declared.table_entry.VacantEntry.{VacantEntry}

module _ {C T : Type 0} {g : cells.Ghosts C T} where
  -- the table that an entry borrows
  abbrev pub entry_table : OccupiedEntry C T g → Table T
  entry_table e = g.seen e.table.now

  -- the ghost name of the reference to the table
  abbrev pub entry_lender : OccupiedEntry C T g → GName
  entry_lender e = e.table.ghost_name

  -- the hash and the value of the entry
  unfoldable pub entry_pair : OccupiedEntry C T g → Option (ℕ × T)
  entry_pair e = pair_at (g.seen e.table.now) e.place

  -- the value of the entry
  unfoldable pub entry_value : OccupiedEntry C T g → Option T
  entry_value e = value_of (entry_pair e)

  -- the table that a vacant entry borrows
  abbrev pub vacant_table : VacantEntry C T g → Table T
  vacant_table e = g.seen e.table.now

  -- the ghost name of a vacant entry's reference to the table
  abbrev pub vacant_lender : VacantEntry C T g → GName
  vacant_lender e = e.table.ghost_name

  -- the hash under which a vacant entry inserts
  unfoldable pub vacant_hash : VacantEntry C T g → ℕ
  vacant_hash e = e.hash

  -- the ghost name of the reference to the table, of either entry
  abbrev pub lender_of : Entry C T g → GName
  lender_of (Occupied e) = entry_lender e
  lender_of (Vacant e) = vacant_lender e

  -- P holds of the entry, if the result is the entry of a pair
  abbrev pub IfOccupied : {E : Type 0} → Result (Entry C T g) E → (OccupiedEntry C T g → Type 0) → Type 0
  IfOccupied (Ok (Occupied e)) P = P e
  IfOccupied (Ok (Vacant e)) P = Unit {0}
  IfOccupied (Err error) P = Unit {0}

  -- P holds of the entry, if the result is a vacant one
  abbrev pub IfVacant : {E : Type 0} → Result (Entry C T g) E → (VacantEntry C T g → Type 0) → Type 0
  IfVacant (Ok (Occupied e)) P = Unit {0}
  IfVacant (Ok (Vacant e)) P = P e
  IfVacant (Err error) P = Unit {0}

  -- P holds, unless the result is the entry of a pair
  abbrev pub UnlessOccupied : {E : Type 0} → Result (Entry C T g) E → Type 0 → Type 0
  UnlessOccupied (Ok (Occupied e)) P = Unit {0}
  UnlessOccupied (Ok (Vacant e)) P = P
  UnlessOccupied (Err error) P = P
