-- The memory of keyed items, beside their state: what each part can hold without asking for more.
use Rattle.std.specs.Prelude.{◌≡◌, ◌≤◌, ◌<◌, ◌-◌, ◌+◌, ◌*◌, ⊤, ℕ, List, ◌∷◌, All, length, Result, IsOk, OnOk, IfErr, min, max, refl}
use Rattle.std.specs.FinMap as finite
use Rattle.std.specs.Coded.{Coded, code_by, coded×, coded_ℕ}
use Rattle.iddqd.specs.Store.{live_count, slot_count}
use Rattle.iddqd.specs.ItemSet.{SizedStore, room as set_room}
use Rattle.iddqd_hash.specs.HashTable.{Table, capacity as hashed_capacity, memory as hashed_cells}
use Rattle.iddqd.specs.Sizes.{insertable}
use Rattle.iddqd_hash.specs.MapHashTable.{filed}
use Rattle.iddqd_hash.specs.Sizes.{most_cells}
use Rattle.iddqd_order.specs.MapBTreeTable.{Order, order_of, capacity as ordered_capacity, capacity_for}
use Rattle.iddqd_driver.specs.Keys.{Keys}
use Rattle.iddqd_driver.specs.State.{State, state_code, state_of}
use Rattle.iddqd_driver.specs.Run.{Run}
use Rattle.iddqd_driver.specs.declared.command.Command.{Command}
use Rattle.iddqd_driver.specs.declared.command.Command.TheVariants.{Insert}
use Rattle.iddqd_driver.specs.declared.command.Reply.{Reply}
use Rattle.iddqd_driver.specs.declared.command.Reply.TheVariants.{Refused}
use Rattle.iddqd_driver.specs.declared.keyed_items.InsertRefusal.{InsertRefusal}
use Rattle.iddqd_driver.specs.declared.keyed_items.InsertRefusal.TheVariants.{Duplicate, Memory as OutOfMemory}

-- How many slots the store's memory holds, how many indexes the hash table can hold, how many cells it has, and how
-- many indexes the ordered table can hold.
pub record Memory : Type 0 where
  pub slots : ℕ
  pub hashed : ℕ
  pub cells : ℕ
  pub ordered : ℕ

-- a state, and the memory of its store and tables
pub record SizedState (T S : Type 0) : Type 0 where
  pub state : State T S
  pub memory : Memory

abbrev pub memory_code : Coded Memory
memory_code =
    code_by
    (ℕ × (ℕ × (ℕ × ℕ)))
    (coded× coded_ℕ (coded× coded_ℕ (coded× coded_ℕ coded_ℕ)))
    (λ m. (m.slots, (m.hashed, (m.cells, m.ordered))))
    (λ p. record { slots = p.0; hashed = p.1.0; cells = p.1.1.0; ordered = p.1.1.1 })
    (λ _. refl)

-- a sized state is coded if its items and its hasher are
abbrev pub sized_state_code : {T S : Type 0} → Coded T → Coded S → Coded (SizedState T S)
sized_state_code {T} {S} item hasher =
    code_by
    (State T S × Memory)
    (coded× (state_code item hasher) memory_code)
    (λ k. (k.state, k.memory))
    (λ p. record { state = p.0; memory = p.1 })
    (λ _. refl)

-- the memory of a collection that has allocated nothing: an ordered table has room for 10 indexes without a block
abbrev pub no_memory : Memory
no_memory = record { slots = 0; hashed = 0; cells = 0; ordered = 10 }

-- no part can hold less than it could
pub record IsNoLower (old new : Memory) : Type 0 where
  pub slots : old.slots ≤ new.slots
  pub hashed : old.hashed ≤ new.hashed
  pub cells : old.cells ≤ new.cells
  pub ordered : old.ordered ≤ new.ordered

-- the memory of a store and two tables
abbrev pub memory_of : {T : Type 0} → SizedStore T → Table ℕ → Order → Memory
memory_of items table order =
    record {
      slots = items.capacity;
      hashed = hashed_capacity table;
      cells = hashed_cells table;
      ordered = ordered_capacity order;
    }

-- the command is an insert
abbrev pub IsInsert : {T K1 K2 : Type 0} → Command T K1 K2 → Type 0
IsInsert (Insert item) = ⊤
IsInsert command = ⊥

-- an item was refused since memory ran out
abbrev pub IsOutOfMemory : {T : Type 0} → InsertRefusal T → Type 0
IsOutOfMemory (OutOfMemory item) = ⊤
IsOutOfMemory refusal = ⊥

-- an item was refused since a look-up found one of its keys
abbrev pub IsDuplicate : {T : Type 0} → InsertRefusal T → Type 0
IsDuplicate (Duplicate item first second) = ⊤
IsDuplicate refusal = ⊥

-- the item of a command was refused since memory ran out
abbrev pub RefusesMemory : {T : Type 0} → Reply T → Type 0
RefusesMemory (Refused refusal) = IsOutOfMemory refusal
RefusesMemory reply = ⊥

-- What an insert leaves of the memory: no part can hold less than before, and the ordered table exactly as much;
-- nothing is taken if the item is refused for another reason than memory; if there is room, no memory is taken and the
-- item isn't refused for memory.
pub record InsertsInMemory
    {T : Type 0} (has_room : Type 0) (old : Memory) (result : Result ℕ (InsertRefusal T)) (new : Memory)
    : Type 0 where
  pub no_lower : IsNoLower old new
  pub same_ordered : new.ordered ≡ old.ordered
  pub refused_early : IfErr result (λ refusal. (IsOutOfMemory refusal → ⊥) → new ≡ old)
  pub had_room : has_room → new ≡ old
  pub not_refused : has_room → IfErr result (λ refusal. IsOutOfMemory refusal → ⊥)

-- The most memory after an insert beside `items` items, whether it is refused or not, if there was less: slots for
-- twice as many, at least four, and at most the limit; and the cells that `items + 1` indexes need.
pub record TakesForOne (limit items : ℕ) (old new : Memory) : Type 0 where
  pub slots : new.slots ≤ max old.slots (min limit (max 4 (2 * items)))
  pub cells : new.cells ≤ max old.cells (most_cells (items + 1))

-- each part has room for one more item: for a table, its capacity is more than it holds
pub record HasRoomInParts {T : Type 0} (items : SizedStore T) (table : Table ℕ) (order : Order) : Type 0 where
  pub slots : 1 ≤ set_room items
  pub hashed : finite.len (filed table) < hashed_capacity table
  pub ordered : length (order_of order) < ordered_capacity order

-- what an insert into a store and two tables leaves of their memory
abbrev pub InsertsInParts :
    {T : Type 0} → SizedStore T → Table ℕ → Order → Result ℕ (InsertRefusal T) → SizedStore T → Table ℕ → Order → Type 0
InsertsInParts items table order result new_items new_table new_order =
    InsertsInMemory
    (HasRoomInParts items table order)
    (memory_of items table order)
    result
    (memory_of new_items new_table new_order)

-- the memory is made for `items` items: each part can hold these, and has no more than these need
pub record IsMadeFor (items : ℕ) (memory : Memory) : Type 0 where
  pub slots : memory.slots ≡ items
  pub hashed : items ≤ memory.hashed
  pub cells : memory.cells ≤ most_cells items
  pub ordered : memory.ordered ≡ capacity_for items

module _ {T S : Type 0} where
  -- the state of a store and two tables, and their memory
  abbrev pub sized_of : S → SizedStore T → Table ℕ → Order → SizedState T S
  sized_of hasher items table order =
      record { state = state_of hasher items.store table order; memory = memory_of items table order }

  -- how many items there can be without asking for memory: the least of what each part and the limit allow
  abbrev pub capacity : SizedState T S → ℕ
  capacity k = min (min k.memory.slots k.state.store.limit) (min k.memory.hashed k.memory.ordered)

  -- how many inserts need no memory
  abbrev pub room : SizedState T S → ℕ
  room k = capacity k - live_count k.state.store

  -- how many more items a reserve of `additional` makes room for: no more than the limit leaves
  abbrev pub reservable : ℕ → SizedState T S → ℕ
  reservable additional k = min additional (insertable k.state.store)

  -- What a reserve leaves: the contents; no part can hold less than before; at Ok there is room for `additional` more
  -- items, or for as many as the limit leaves; if there was room before, nothing changes. The tables grow to no more
  -- than these items need, and the store to no more slots than that, or than twice as many as it had.
  pub record ReservesInMemory {E : Type 0}
      (additional : ℕ) (old : SizedState T S) (result : Result (Unit {0}) E) (new : SizedState T S) : Type 0 where
    pub contents : new.state ≡ old.state
    pub no_lower : IsNoLower old.memory new.memory
    pub reserved : OnOk result (reservable additional old ≤ room new)
    pub had_room : reservable additional old ≤ room old → IsOk result × (new ≡ old)
    pub few_slots :
        new.memory.slots ≤ max old.memory.slots
        (max (live_count old.state.store + reservable additional old)
        (min old.state.store.limit (2 * old.memory.slots)))
    pub few_cells :
        new.memory.cells ≤ max old.memory.cells (most_cells (live_count old.state.store + reservable additional old))
    pub few_blocks :
        new.memory.ordered
        ≤ max old.memory.ordered (capacity_for (live_count old.state.store + reservable additional old))

  -- What a shrink to `least` items leaves: the contents, and a capacity for that many, or for the items that there are
  -- if these are more, or the old capacity if that was less. No part gets more memory. At Ok no part has more than
  -- these items need, except that the store keeps every slot, also the vacant ones.
  pub record ShrinksInMemory {E : Type 0}
      (least : ℕ) (old : SizedState T S) (result : Result (Unit {0}) E) (new : SizedState T S) : Type 0 where
    pub contents : new.state ≡ old.state
    pub never_less : min (capacity old) (max least (live_count old.state.store)) ≤ capacity new
    pub slots : OnOk result (new.memory.slots ≡ min old.memory.slots (max least (slot_count old.state.store)))
    pub cells : OnOk result (new.memory.cells ≤ most_cells (max least (live_count old.state.store)))
    pub blocks :
        new.memory.ordered ≡ min old.memory.ordered (capacity_for (max least (live_count old.state.store)))
    pub never_more : (new.memory.slots ≤ old.memory.slots) × (new.memory.cells ≤ old.memory.cells)

  -- One step and the memory of the store and both tables: no part can hold less than before; if there is room for an
  -- item, they take none and no item is refused for memory; only an insert gives them more, at most as `TakesForOne`
  -- says. The lists that `Walk` and `Compact` return are not counted.
  pub record StepsInMemory
      {K1 K2 : Type 0} (old : SizedState T S) (command : Command T K1 K2) (reply : Reply T) (new : SizedState T S)
      : Type 0 where
    pub no_lower : IsNoLower old.memory new.memory
    pub had_room : 1 ≤ room old → new.memory ≡ old.memory
    pub not_refused : 1 ≤ room old → RefusesMemory reply → ⊥
    pub others : (IsInsert command → ⊥) → new.memory ≡ old.memory
    pub few : TakesForOne old.state.store.limit (live_count old.state.store) old.memory new.memory

  -- at each moment with fewer than n items, no item is refused for lack of memory
  abbrev pub IsServedBelow : ℕ → State T S → List (Reply T) → List (State T S) → Type 0
  IsServedBelow n moment (reply ∷ replies) (next ∷ moments) =
      (live_count moment.store < n → RefusesMemory reply → ⊥) × IsServedBelow n next replies moments
  IsServedBelow n moment replies moments = ⊤

-- A run and its memory: no part can hold less than at the start; at each moment with fewer items than the capacity at
-- the start, no item is refused for lack of memory; and if there never are more than `most` items, no more is taken
-- than an insert beside that many may take.
pub record RunsInMemory
    {T S K1 K2 : Type 0} (keys : Keys T K1 K2 S) (old : SizedState T S) (commands : List (Command T K1 K2))
    (replies : List (Reply T)) (new : SizedState T S) : Type 0 where
  pub run : Run keys old.state commands replies new.state
  pub no_lower : IsNoLower old.memory new.memory
  pub served : IsServedBelow (capacity old) old.state replies run.moments
  pub few :
      (most : ℕ)
      → All (λ s. live_count s.store ≤ most) (old.state ∷ run.moments)
      → TakesForOne old.state.store.limit most old.memory new.memory
