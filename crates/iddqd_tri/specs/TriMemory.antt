-- What a contract sees of the memory of items with three keys, beside their state, and what calls do with it.
use Rattle.std.specs.Prelude.{◌≡◌, ◌⊎◌, ◌+◌, ◌-◌, ◌*◌, ◌<◌, ◌≤◌, ℕ, min, max, Result, OnOk, OnErr, IsOk, refl}
use Rattle.std.specs.Coded.{Coded, code_by, coded×, coded_ℕ}
use Rattle.iddqd.specs.Store.{live_count}
use Rattle.iddqd_hash.specs.Sizes.{most_cells}
use Rattle.iddqd_tri.specs.TriKeys.{Three, TriKeys}
use Rattle.iddqd_tri.specs.TriState.{TriState, tri_state_code, HasNoClash}

-- how many indexes a table can hold without more memory, and how many cells its memory holds
pub record TableMemory : Type 0 where
  pub capacity : ℕ
  pub cells : ℕ

-- how many slots the memory of the store holds, and the memory of each table
pub record TriMemory : Type 0 where
  pub slots : ℕ
  pub tables : Three TableMemory

-- the state, and the memory, which is no part of it
pub record SizedTri (T S : Type 0) : Type 0 where
  pub state : TriState T S
  pub memory : TriMemory

abbrev table_memory_code : Coded TableMemory
table_memory_code =
    code_by
    (ℕ × ℕ)
    (coded× coded_ℕ coded_ℕ)
    (λ t. (t.capacity, t.cells))
    (λ p. record { capacity = p.0; cells = p.1 })
    (λ _. refl)

abbrev tri_memory_code : Coded TriMemory
tri_memory_code =
    code_by
    (ℕ × (TableMemory × (TableMemory × TableMemory)))
    (coded× coded_ℕ (coded× table_memory_code (coded× table_memory_code table_memory_code)))
    (λ m. (m.slots, (m.tables.first, (m.tables.second, m.tables.third))))
    (λ p. record { slots = p.0; tables = record { first = p.1.0; second = p.1.1.0; third = p.1.1.1 } })
    (λ _. refl)

-- a state with its memory is coded if its items and its hasher are
abbrev pub sized_tri_code : {T S : Type 0} → Coded T → Coded S → Coded (SizedTri T S)
sized_tri_code {T} {S} item hasher =
    code_by
    (TriState T S × TriMemory)
    (coded× (tri_state_code item hasher) tri_memory_code)
    (λ t. (t.state, t.memory))
    (λ p. record { state = p.0; memory = p.1 })
    (λ _. refl)

-- how many indexes each of the tables can hold without more memory
abbrev pub least_capacity : Three TableMemory → ℕ
least_capacity tables = min tables.first.capacity (min tables.second.capacity tables.third.capacity)

-- no memory in the store or in any table
abbrev pub no_memory : TriMemory
no_memory =
    let none : TableMemory = record { capacity = 0; cells = 0 } in
    record { slots = 0; tables = record { first = none; second = none; third = none } }

-- What one table allocates so that it can hold `wanted` indexes: nothing if it can already. It gives no memory back,
-- and takes no more than these indexes need.
pub record TableGrows (wanted : ℕ) (old new : TableMemory) : Type 0 where
  pub had_room : wanted ≤ old.capacity → new ≡ old
  pub capacity_at_least : old.capacity ≤ new.capacity
  pub cells_at_least : old.cells ≤ new.cells
  pub few : new.cells ≤ max old.cells (most_cells wanted)

-- What the store allocates so that it can have `wanted` slots: nothing if it can already. It gives no memory back. It
-- grows to at most the largest of `wanted`, twice the old number and four, and never past the limit.
pub record SlotsGrow (limit wanted old new : ℕ) : Type 0 where
  pub had_room : wanted ≤ old → new ≡ old
  pub slots_at_least : old ≤ new
  pub few : new ≤ max old (min limit (max 4 (max wanted (2 * old))))

-- the most that a call allocates so that there can be `wanted` items, whether it is refused or not
pub record Grows (limit wanted : ℕ) (old new : TriMemory) : Type 0 where
  pub slots : SlotsGrow limit wanted old.slots new.slots
  pub first : TableGrows wanted old.tables.first new.tables.first
  pub second : TableGrows wanted old.tables.second new.tables.second
  pub third : TableGrows wanted old.tables.third new.tables.third

-- the memory of some table holds more cells than this
abbrev pub SomeTableHasMore : ℕ → Three TableMemory → Type 0
SomeTableHasMore wanted tables =
    (wanted < tables.first.cells) ⊎ ((wanted < tables.second.cells) ⊎ (wanted < tables.third.cells))

-- What one table gives back beyond what `wanted` indexes need. Even if memory runs out, it can still hold these, or as
-- many of them as before.
pub record TableShrinks {A E : Type 0} (wanted : ℕ) (old : TableMemory) (result : Result A E) (new : TableMemory)
    : Type 0 where
  pub never_more : new.cells ≤ old.cells
  pub capacity_at_least : min old.capacity wanted ≤ new.capacity
  pub shrunk : OnOk result (new.cells ≤ most_cells wanted)

-- What is given back beyond what `slots` slots and `wanted` indexes need. A refusal means that the store's memory still
-- holds more than `slots` slots, or some table's more than `wanted` cells; if no slot is needed, there is no refusal.
pub record Shrinks {A E : Type 0} (slots wanted : ℕ) (old : TriMemory) (result : Result A E) (new : TriMemory)
    : Type 0 where
  pub never_more : new.slots ≤ old.slots
  pub slots_at_least : min old.slots slots ≤ new.slots
  pub shrunk : OnOk result (new.slots ≡ min old.slots slots)
  pub first : TableShrinks wanted old.tables.first result new.tables.first
  pub second : TableShrinks wanted old.tables.second result new.tables.second
  pub third : TableShrinks wanted old.tables.third result new.tables.third
  pub refused : OnErr result ((slots < new.slots) ⊎ SomeTableHasMore wanted new.tables)
  pub succeeds : slots ≡ 0 → IsOk result

module _ {T S : Type 0} where
  -- how many items there can be without more memory: no more than the slots, the limit and each table allow
  abbrev pub capacity : SizedTri T S → ℕ
  capacity t = min (min t.memory.slots t.state.store.limit) (least_capacity t.memory.tables)

  -- how many inserts need no memory
  abbrev pub room : SizedTri T S → ℕ
  room t = capacity t - live_count t.state.store

  -- how many items there are after `additional` more inserts, or as many as there can be
  abbrev pub reaching : TriState T S → ℕ → ℕ
  reaching s additional = live_count s.store + min additional (s.store.limit - live_count s.store)

  -- There is memory for `additional` more items, or for as many as there can be; the slots grew at most as `SlotsGrow`
  -- says, and the cells to no more than the items need. If the memory was there before, nothing changed. A refusal
  -- leaves the items, and no part has less memory than before.
  pub record ReservesItems
      {A E : Type 0} (additional : ℕ) (old : SizedTri T S) (result : Result A E) (new : SizedTri T S)
      : Type 0 where
    pub state : new.state ≡ old.state
    pub reserved : OnOk result (reaching old.state additional ≤ capacity new)
    pub grows : Grows old.state.store.limit (reaching old.state additional) old.memory new.memory
    pub had_room : reaching old.state additional ≤ capacity old → IsOk result × (new ≡ old)

module _ {T K1 K2 K3 S : Type 0} (keys : TriKeys T K1 K2 K3 S) where
  -- an item needs memory if it shares no key with another one and there is no room
  pub record NeedsMemory (t : SizedTri T S) (item : T) : Type 0 where
    pub no_clash : HasNoClash keys t.state.store item
    pub no_room : room t ≡ 0
