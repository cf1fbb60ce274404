-- The three tables of items with three keys, beside their store: what they hold, their room, and single steps.
use Rattle.std.specs.Prelude.{◌≡◌, ◌⊎◌, ◌+◌, ◌<◌, ◌≤◌, ℕ, max, Option, Some, None, IsSome, Result}
use Rattle.std.specs.FinMap as finite
use Rattle.iddqd.specs.Store.{Store, removed}
use Rattle.iddqd.specs.ItemSet.{SizedStore}
use Rattle.iddqd_hash.specs.HashTable.{Table, room, memory}
use Rattle.iddqd_hash.specs.MapHashTable.{filed}
use Rattle.iddqd_tri.specs.TriKeys.{Three}
use Rattle.iddqd_tri.specs.TriState.{Maps, TriState, maps_without}
use Rattle.iddqd_tri.specs.TriMemory.{TableMemory, TriMemory, SizedTri, TableGrows, TableShrinks}
use Rattle.iddqd_tri.specs.declared.tri_tables.TriTables.{TriTables}
use Rattle.iddqd_tri.specs.declared.tri_tables.TriHashes.{TriHashes}

-- what each table holds
abbrev pub maps_of : TriTables → Maps
maps_of t = record { first = filed t.first; second = filed t.second; third = filed t.third }

-- the state of a hasher, a store and three tables
abbrev pub tri_state_of : {T S : Type 0} → S → Store T → TriTables → TriState T S
tri_state_of hasher store tables = record { hasher = hasher; store = store; maps = maps_of tables }

abbrev pub three_hashes : TriHashes → Three ℕ
three_hashes h = record { first = h.first; second = h.second; third = h.third }

-- the memory of a table, whose capacity is the number of its indexes and its room
abbrev pub table_memory : Table ℕ → TableMemory
table_memory t = record { capacity = finite.len (filed t) + room t; cells = memory t }

-- the memory of each table
abbrev pub tables_memory : TriTables → Three TableMemory
tables_memory t =
    record { first = table_memory t.first; second = table_memory t.second; third = table_memory t.third }

-- the memory of a store and three tables
abbrev pub memory_of : {T : Type 0} → SizedStore T → TriTables → TriMemory
memory_of items tables = record { slots = items.capacity; tables = tables_memory tables }

-- the state of a hasher, a store and three tables, and the memory
abbrev pub sized_tri_of : {T S : Type 0} → S → SizedStore T → TriTables → SizedTri T S
sized_tri_of hasher items tables =
    record { state = tri_state_of hasher items.store tables; memory = memory_of items tables }

-- n inserts into each of the tables need no memory
pub record HaveRoom (n : ℕ) (t : TriTables) : Type 0 where
  pub first : n ≤ room t.first
  pub second : n ≤ room t.second
  pub third : n ≤ room t.third

-- each of the maps has n indexes
pub record HaveLen (n : ℕ) (maps : Maps) : Type 0 where
  pub first : finite.len maps.first ≡ n
  pub second : finite.len maps.second ≡ n
  pub third : finite.len maps.third ≡ n

-- each table took at most what it needs for `additional` more indexes
pub record TablesGrow (additional : ℕ) (old new : TriTables) : Type 0 where
  pub first : TableGrows (finite.len (filed old.first) + additional) (table_memory old.first) (table_memory new.first)
  pub second :
      TableGrows (finite.len (filed old.second) + additional) (table_memory old.second) (table_memory new.second)
  pub third : TableGrows (finite.len (filed old.third) + additional) (table_memory old.third) (table_memory new.third)

-- At `Ok` each table gave back what it doesn't need for `least` indexes, or for its own if these are more. After a
-- failure each can still hold that many, or as many of them as before.
pub record TablesShrink
    {A E : Type 0} (least : ℕ) (old : TriTables) (result : Result A E) (new : TriTables)
    : Type 0 where
  pub first :
      TableShrinks (max least (finite.len (filed old.first))) (table_memory old.first) result (table_memory new.first)
  pub second :
      TableShrinks (max least (finite.len (filed old.second)))
      (table_memory old.second) result (table_memory new.second)
  pub third :
      TableShrinks (max least (finite.len (filed old.third))) (table_memory old.third) result (table_memory new.third)

-- the table has more cells than `least`, and more cells than indexes
abbrev pub HasMore : ℕ → Table ℕ → Type 0
HasMore least t = max least (finite.len (filed t)) < memory t

-- some table has more than that
abbrev pub SomeHasMore : ℕ → TriTables → Type 0
SomeHasMore least t = HasMore least t.first ⊎ (HasMore least t.second ⊎ HasMore least t.third)

-- each table has the index
pub record AreFiled (maps : Maps) (ix : ℕ) : Type 0 where
  pub first : IsSome (finite.get maps.first ix)
  pub second : IsSome (finite.get maps.second ix)
  pub third : IsSome (finite.get maps.third ix)

-- no table has the index
pub record AreUnfiled (maps : Maps) (ix : ℕ) : Type 0 where
  pub first : finite.get maps.first ix ≡ None
  pub second : finite.get maps.second ix ≡ None
  pub third : finite.get maps.third ix ≡ None

-- the maps without an index, if there is one
abbrev pub maps_without_one : Maps → Option ℕ → Maps
maps_without_one maps None = maps
maps_without_one maps (Some ix) = maps_without maps ix

-- the store after the removal of a live index, if there is one
abbrev pub removed_one : {T : Type 0} → Store T → Option ℕ → Store T
removed_one s None = s
removed_one s (Some ix) = removed s ix
