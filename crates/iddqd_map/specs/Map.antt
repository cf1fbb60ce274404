-- The model of a map: items in slots under stable indexes, and the memory beside them.
use Rattle.std.specs.Prelude.{◌≡◌, ◌-◌, ℕ, Bool, Option, Some, None, min, refl}
use Rattle.std.specs.Coded.{Coded, code_by, coded×, coded_ℕ}
use Rattle.iddqd.specs.Store.{Store, store_code, IsValid, empty_within, get, live_count, removed}
use Rattle.iddqd.specs.ItemSet.{SizedStore}
use Rattle.iddqd_keys.specs.Scan.{HasNoHit, AnswersScan, AreApart}

-- How many slots the memory of the store holds, how many indexes each table can hold without more memory, and how much
-- memory the tables have in all, in cells: all that a hash table holds, and what an ordered table has reserved. What an
-- ordered table took as it grew isn't counted.
pub record MapMemory : Type 0 where
  pub slots : ℕ
  pub capacity : ℕ
  pub cells : ℕ

-- what a map has: its items, and its memory, which is no part of the contents
pub record MapState (T : Type 0) : Type 0 where
  pub store : Store T
  pub memory : MapMemory

-- a state is coded if its items are
abbrev pub map_code : {T : Type 0} → Coded T → Coded (MapState T)
map_code {T} item =
    code_by
    (Store T × (ℕ × (ℕ × ℕ)))
    (coded× (store_code item) (coded× coded_ℕ (coded× coded_ℕ coded_ℕ)))
    (λ m. (m.store, (m.memory.slots, (m.memory.capacity, m.memory.cells))))
    (λ p. record { store = p.0; memory = record { slots = p.1.0; capacity = p.1.1.0; cells = p.1.1.1 } })
    (λ _. refl)

-- the state of a map with this store, this capacity of the tables, and this number of cells
abbrev pub map_with : {T : Type 0} → SizedStore T → ℕ → ℕ → MapState T
map_with items capacity cells =
    record { store = items.store; memory = record { slots = items.capacity; capacity = capacity; cells = cells } }

-- the items share this key
abbrev pub shares : {T K : Type 0} → (T → K) → (K → K → Bool) → T → T → Bool
shares key_of equal x y = equal (key_of x) (key_of y)

module _ {T : Type 0} where
  -- no item, no slot and no memory, with this limit of slots
  abbrev pub empty_map : ℕ → MapState T
  empty_map limit = record { store = empty_within limit; memory = record { slots = 0; capacity = 0; cells = 0 } }

  -- how many items there can be without more memory
  abbrev pub capacity : MapState T → ℕ
  capacity m = min (min m.memory.slots m.store.limit) m.memory.capacity

  -- how many inserts need no memory
  abbrev pub room : MapState T → ℕ
  room m = capacity m - live_count m.store

  -- `additional`, or as many as the limit allows if these are fewer
  abbrev pub insertable : MapState T → ℕ → ℕ
  insertable m additional = min additional (m.store.limit - live_count m.store)

  -- this is the item at the index, and no other item passes the test
  pub record IsOnly (s : Store T) (test : T → Bool) (ix : ℕ) (item : T) : Type 0 where
    pub live : get s ix ≡ Some item
    pub only : AnswersScan s test (Some ix)

  -- what a look-up returns: the one item that passes the test; `None` if and only if no item passes
  abbrev pub FindsItem : Store T → (T → Bool) → Option T → Type 0
  FindsItem s test (Some item) = (ix : ℕ) × IsOnly s test ix item
  FindsItem s test None = HasNoHit s test

  -- the one item that passes the test was removed, and the counts of the memory stay
  pub record RemovesHit (old : MapState T) (test : T → Bool) (item : T) (new : MapState T) : Type 0 where
    pub ix : ℕ
    pub hit : IsOnly old.store test ix item
    pub left : new.store ≡ removed old.store ix
    pub memory : new.memory ≡ old.memory

  -- What a removal may return and leave. It returns `None` if and only if no item passes the test, and then nothing
  -- changes.
  abbrev pub Removes : MapState T → (T → Bool) → Option T → MapState T → Type 0
  Removes old test (Some item) new = RemovesHit old test item new
  Removes old test None new = HasNoHit old.store test × (new ≡ old)

  -- the same of a removal that also returns the index of the item
  abbrev pub RemovesFull : MapState T → (T → Bool) → Option (ℕ × T) → MapState T → Type 0
  RemovesFull old test (Some (ix, item)) new =
      IsOnly old.store test ix item × (new.store ≡ removed old.store ix) × (new.memory ≡ old.memory)
  RemovesFull old test None new = HasNoHit old.store test × (new ≡ old)

  -- What a removal at an index may return and leave. It returns `None` if and only if no item is there, and then
  -- nothing changes.
  abbrev pub RemovesAt : MapState T → ℕ → Option T → MapState T → Type 0
  RemovesAt old ix (Some item) new =
      (get old.store ix ≡ Some item) × (new.store ≡ removed old.store ix) × (new.memory ≡ old.memory)
  RemovesAt old ix None new = (get old.store ix ≡ None) × (new ≡ old)

-- No two items are alike. The free indexes are distinct and exactly the vacant ones.
pub record IsMap {T : Type 0} (alike : T → T → Bool) (s : Store T) : Type 0 where
  pub valid : IsValid s
  pub apart : AreApart alike s
