-- What a contract sees of an entry of a `MapBTreeTable`.
use Rattle.std.specs.Prelude.{◌≡◌, ◌≢◌, ◌≤◌, ℕ, List, All, Contains, None, length, slice_index}
use Rattle.std.specs.Borrow.{MutBor}
use Rattle.std.specs.Fn.{Mut}
use Rattle.std.specs.declared.cmp.Ordering.{Ordering}
use Rattle.std.specs.declared.cmp.Ordering.TheVariants.{Equal}
use Rattle.iddqd_order.specs.Gap.{gap_place}
use Rattle.iddqd_order.specs.MapBTreeTable.{Order, order_of, spot_place}
use Rattle.iddqd_order.specs.PreparedBTreeInsert.{Prepared, table_of, index_of, place_of, blocks_of, needed_of}
use Rattle.iddqd_order.specs.Search.{SearchAsks, IsSteady, IsSteadyRising, IsPlace}
use Rattle.iddqd_order.specs.declared.btree_table.asking.Asking.{Asking}
use Rattle.iddqd_order.specs.declared.btree_table.entry.Entry.{Entry}
use Rattle.iddqd_order.specs.declared.btree_table.entry.Entry.TheVariants.{Occupied, Vacant}
use Rattle.iddqd_order.specs.declared.btree_table.entry.OccupiedEntry.{OccupiedEntry}
use Rattle.iddqd_order.specs.declared.btree_table.entry.VacantEntry.{VacantEntry}
use Rattle.iddqd_order.specs.Shape.{most_levels}

-- the table that an occupied entry borrows
abbrev pub occupied_table : OccupiedEntry → MutBor Order
occupied_table e = e.table

-- the stored index of an occupied entry
unfoldable pub entry_index : OccupiedEntry → ℕ
entry_index e = slice_index (order_of e.table.now) (spot_place e.table.now e.spot)

-- the table that a vacant entry borrows
abbrev pub vacant_table : VacantEntry → MutBor Order
vacant_table e = e.table

-- how many indexes stand before the gap of a vacant entry
unfoldable pub vacant_place : VacantEntry → ℕ
vacant_place e = gap_place e.table.now e.gap

-- the table that either entry borrows
abbrev pub entry_table : Entry → MutBor Order
entry_table (Occupied e) = occupied_table e
entry_table (Vacant e) = vacant_table e

-- P holds of an entry, if it is occupied
abbrev pub IfOccupied : Entry → (OccupiedEntry → Type 0) → Type 0
IfOccupied (Occupied e) P = P e
IfOccupied (Vacant e) P = Unit {0}

-- P holds of an entry, if it is vacant
abbrev pub IfVacant : Entry → (VacantEntry → Type 0) → Type 0
IfVacant (Occupied e) P = Unit {0}
IfVacant (Vacant e) P = P e

-- An entry among the indexes xs; `read` turns an answer into an `Ordering`. It is occupied by a stored index: if the
-- answers are steady, the answer there is Equal. Or it is vacant, with a position: if the answers also rise, that is
-- where Greater ends, and none of them is Equal.
module _ {F R : Type 0} (g : Mut F (ℕ × Unit {0}) R) (read : R → Ordering) (xs : List ℕ) where
  pub record FindsEntry (old : Asking F) (e : Entry) (new : Asking F) : Type 0 where
    pub asked : SearchAsks g xs None old new
    pub stored : IfOccupied e (λ o. Contains xs (entry_index o))
    pub hit : (answer : ℕ → Ordering) → IsSteady g xs None read answer old →
        IfOccupied e (λ o. answer (entry_index o) ≡ Equal)
    pub within : IfVacant e (λ v. vacant_place v ≤ length xs)
    pub place : (answer : ℕ → Ordering) → IsSteadyRising g xs None read answer old →
        IfVacant e (λ v. IsPlace answer xs (vacant_place v))
    pub miss : (answer : ℕ → Ordering) → IsSteadyRising g xs None read answer old →
        IfVacant e (λ v. All (λ ix. answer ix ≢ Equal) xs)

-- the insert of ix at the gap of a vacant entry is prepared, with exactly the blocks that it needs, and nothing is
-- added yet
pub record PreparesFill (v : VacantEntry) (ix : ℕ) (p : Prepared) : Type 0 where
  pub table : order_of (table_of p).now ≡ order_of (vacant_table v).now
  pub index : index_of p ≡ ix
  pub place : place_of p ≡ vacant_place v
  pub needed : blocks_of p ≡ needed_of p
  pub few_blocks : blocks_of p ≤ most_levels
