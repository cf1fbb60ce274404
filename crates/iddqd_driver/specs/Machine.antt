-- The keyed machine: what each command may return, and what state it leaves.
use Rattle.std.specs.Prelude.{◌≡◌, ◌≢◌, ◌⊎◌, ℕ, List, [], Option, Some, None, IsSome, Result, Ok, Err, IfOk, IfErr, OnErr}
use Rattle.std.specs.Option.{option_map}
use Rattle.std.specs.FinMap as finite
use Rattle.iddqd.specs.Store.{Store, get, next_index, inserted, rebound, IsFull}
use Rattle.iddqd.specs.Compaction.{IsRemapOf}
use Rattle.iddqd_keys.specs.Scan.{AnswersScan}
use Rattle.iddqd_by_order.specs.Ordered.{Adds}
use Rattle.iddqd_driver.specs.Keys.{Keys}
use Rattle.iddqd_driver.specs.State.{State, cleared_state, unbound, Compacts, IsPaired}
use Rattle.iddqd_driver.specs.KeyIndexes.{KeyIndex, has, IsInSync, KeepsKeyIndex, ChangesKey, AsScan, finds_reported, hash_in, first_key_index, second_key_index}
use Rattle.iddqd_driver.specs.declared.command.Command.{Command}
use Rattle.iddqd_driver.specs.declared.command.Command.TheVariants.{Insert, Find1, Find2, Remove, Remove1, Remove2, Overwrite, Compact, Clear, Walk}
use Rattle.iddqd_driver.specs.declared.command.Reply.{Reply}
use Rattle.iddqd_driver.specs.declared.command.Reply.TheVariants.{Inserted, Refused, Found, Removed, Overwritten, Compacted, Cleared, Walked, NoMemory}
use Rattle.iddqd_driver.specs.declared.keyed_items.InsertRefusal.{InsertRefusal}
use Rattle.iddqd_driver.specs.declared.keyed_items.InsertRefusal.TheVariants.{Duplicate, Full, Memory}

-- The item comes back: as a duplicate if one of its look-ups hit, otherwise because the store is full or memory ran
-- out.
abbrev pub Refuses : {T : Type 0} → Store T → T → InsertRefusal T → Type 0
Refuses s item (Duplicate back first second) = (back ≡ item) × (IsSome first ⊎ IsSome second)
Refuses s item (Full back) = (back ≡ item) × IsFull s
Refuses s item (Memory back) = (back ≡ item) × (IsFull s → ⊥)

module _ {T S : Type 0} where
  -- what a removal may return and leave: the item of a live index; `None` if and only if the index isn't live
  abbrev pub Removes : State T S → ℕ → Option T → State T S → Type 0
  Removes old ix (Some item) new = (get old.store ix ≡ Some item) × (new ≡ unbound old ix)
  Removes old ix None new = (get old.store ix ≡ None) × (new ≡ old)

  -- what a removal by a key may return and leave: `finds` says what the look-up of the key may return; a hit is removed
  abbrev pub RemovesFound : (Option ℕ → Type 0) → State T S → Option (ℕ × T) → State T S → Type 0
  RemovesFound finds old (Some (ix, item)) new = finds (Some ix) × Removes old ix (Some item) new
  RemovesFound finds old None new = finds None × (new ≡ old)

  -- a removal by a key of a key index: what it may return and leave, and that it finds what a scan does if the key
  -- index is in sync
  pub record RemovesBy
      {K1 K2 K : Type 0} (key_index : KeyIndex T S K1 K2 K) (old : State T S) (key : K) (removed : Option (ℕ × T))
      (new : State T S) : Type 0 where
    pub removes : RemovesFound (key_index.Finds old key) old removed new
    pub as_scan : IsInSync key_index old → AnswersScan old.store (has key_index key) (option_map (λ r. r.0) removed)

  -- What an overwrite may return and leave. The item at a live index is replaced and returned, and neither table
  -- changes. If the index isn't live, the given item comes back.
  abbrev pub Overwrites : State T S → ℕ → T → Result T T → State T S → Type 0
  Overwrites old ix item (Ok was) new =
      (get old.store ix ≡ Some was) × (new ≡ record old { store = rebound old.store ix item })
  Overwrites old ix item (Err back) new = (get old.store ix ≡ None) × (back ≡ item) × (new ≡ old)

module _ {T S K1 K2 : Type 0} (keys : Keys T K1 K2 S) where
  -- the item was stored at the next index, which was filed under the hash of the item's first key, and `order` is the
  -- order afterwards
  abbrev pub inserted_state : State T S → T → List ℕ → State T S
  inserted_state s item order =
      record s {
        store = inserted s.store item;
        filed = finite.insert s.filed (next_index s.store) (hash_in keys s (keys.first item));
        order = order;
      }

  -- The store was not full, and the item was stored: its index was filed, and inserted into the order at some place.
  -- Nothing else changed.
  pub record StoresAt (old : State T S) (item : T) (ix : ℕ) (new : State T S) : Type 0 where
    pub not_full : IsFull old.store → ⊥
    pub index : ix ≡ next_index old.store
    pub adds : Adds old.order (next_index old.store) new.order
    pub state : new ≡ inserted_state old item new.order

  -- What an insert may return and leave: what it reports of its look-ups is what they may return; the item is stored,
  -- or it comes back and nothing changes.
  pub record Inserts (old : State T S) (item : T) (result : Result ℕ (InsertRefusal T)) (new : State T S)
      : Type 0 where
    pub first : (first_key_index keys).Finds old (keys.first item) (finds_reported result).0
    pub second : (second_key_index keys).Finds old (keys.second item) (finds_reported result).1
    pub stored : IfOk result (λ ix. StoresAt old item ix new)
    pub refused : IfErr result (Refuses old.store item)
    pub unchanged : OnErr result (new ≡ old)

  -- what an insert reports of each look-up is what a scan returns, if that key index is in sync
  pub record ReportsAsScan (old : State T S) (item : T) (result : Result ℕ (InsertRefusal T)) : Type 0 where
    pub first :
        IsInSync (first_key_index keys) old
        → AnswersScan old.store (has (first_key_index keys) (keys.first item)) (finds_reported result).0
    pub second :
        IsInSync (second_key_index keys) old
        → AnswersScan old.store (has (second_key_index keys) (keys.second item)) (finds_reported result).1

  -- what a command may return and leave
  abbrev pub Answers : State T S → Command T K1 K2 → Reply T → State T S → Type 0
  Answers old (Insert item) (Inserted ix) new = Inserts old item (Ok ix) new
  Answers old (Insert item) (Refused refusal) new = Inserts old item (Err refusal) new
  Answers old (Find1 key) (Found found) new = (first_key_index keys).Finds old key found × (new ≡ old)
  Answers old (Find2 key) (Found found) new = (second_key_index keys).Finds old key found × (new ≡ old)
  Answers old (Remove ix) (Removed (Some (at, item))) new = (at ≡ ix) × Removes old ix (Some item) new
  Answers old (Remove ix) (Removed None) new = Removes old ix None new
  Answers old (Remove1 key) (Removed removed) new = RemovesFound ((first_key_index keys).Finds old key) old removed new
  Answers old (Remove2 key) (Removed removed) new = RemovesFound ((second_key_index keys).Finds old key) old removed new
  Answers old (Overwrite ix item) (Overwritten result) new = Overwrites old ix item result new
  Answers old Compact (Compacted remap) new = IsRemapOf old.store remap × Compacts old new
  Answers old Compact NoMemory new = (old.store.free ≢ []) × (new ≡ old)
  Answers old Clear Cleared new = new ≡ cleared_state old
  Answers old Walk (Walked indexes) new = (indexes.items ≡ old.order) × (new ≡ old)
  Answers old Walk NoMemory new = (old.order ≢ []) × (new ≡ old)
  Answers old command reply new = ⊥

  -- one step on a key index: what it preserves if it changes no key, and that a key index in sync returns what a scan
  -- would
  pub record StepsOn
      {K : Type 0} (key_index : KeyIndex T S K1 K2 K) (old : State T S) (command : Command T K1 K2) (reply : Reply T)
      (new : State T S) : Type 0 where
    pub keeps : (ChangesKey key_index old command → ⊥) → KeepsKeyIndex key_index old new
    pub as_scan : IsInSync key_index old → AsScan key_index old.store command reply

  -- one step: what it returns and leaves, and what it does on each key index
  pub record Step (old : State T S) (command : Command T K1 K2) (reply : Reply T) (new : State T S) : Type 0 where
    pub answers : Answers old command reply new
    pub paired : IsPaired old × IsPaired new
    pub first_keys : StepsOn (first_key_index keys) old command reply new
    pub second_keys : StepsOn (second_key_index keys) old command reply new
