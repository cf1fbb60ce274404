-- The two key indexes of keyed items. Each is one key of the items together with its table: the hash table for first
-- keys, the ordered table for second keys.
use Rattle.std.specs.Prelude.{ℕ, Bool, List, Option, None, Result, Err, ⊤}
use Rattle.std.specs.List.{Contains}
use Rattle.std.specs.Option.{option_map}
use Rattle.iddqd.specs.Store.{Store}
use Rattle.iddqd_keys.specs.Scan.{AnswersScan, passes_by}
use Rattle.iddqd_keys.specs.AnyTable.{HasExactly, TableIsInSync, TableKeeps, TableLooksUp, ChangesAt}
use Rattle.iddqd_by_hash.specs.Hashed as hashed
use Rattle.iddqd_by_order.specs.Ordered as ordered
use Rattle.iddqd_driver.specs.Keys.{Keys, first_hashing, equal_second}
use Rattle.iddqd_driver.specs.State.{State, IsPaired}
use Rattle.iddqd_driver.specs.declared.command.Command.{Command}
use Rattle.iddqd_driver.specs.declared.command.Command.TheVariants.{Insert, Find1, Find2, Remove1, Remove2, Overwrite, Walk}
use Rattle.iddqd_driver.specs.declared.command.Reply.{Reply}
use Rattle.iddqd_driver.specs.declared.command.Reply.TheVariants.{Inserted, Refused, Found, Removed, Walked}
use Rattle.iddqd_driver.specs.declared.keyed_items.InsertRefusal.{InsertRefusal}
use Rattle.iddqd_driver.specs.declared.keyed_items.InsertRefusal.TheVariants.{Duplicate}

-- what is reported of the keys of a key index: nothing, what a look-up of a key returned, or all indexes
pub data Report (K : Type 0) : Type 0 where
  Reports_nothing : Report K
  Reports_found : K → Option ℕ → Report K
  Reports_all : List ℕ → Report K

-- what an insert reports of its look-ups: for a duplicate what both returned, otherwise that both returned none
abbrev pub finds_reported : {T : Type 0} → Result ℕ (InsertRefusal T) → Option ℕ × Option ℕ
finds_reported (Err (Duplicate back first second)) = (first, second)
finds_reported result = (None, None)

-- A key index: which key of an item it goes by, when two are equal, what a look-up of a key may return in any state,
-- when its table is in place, what a list of all indexes is, and what a command with its reply reports of keys.
pub record KeyIndex (T S K1 K2 K : Type 0) : Type 1 where
  pub key_of : T → K
  pub equal : K → K → Bool
  pub Finds : State T S → K → Option ℕ → Type 0
  pub IsInPlace : State T S → Type 0
  pub Lists : Store T → List ℕ → Type 0
  pub report : Command T K1 K2 → Reply T → Report K

module _ {T S K1 K2 K : Type 0} (key_index : KeyIndex T S K1 K2 K) where
  -- the item has this key
  abbrev pub has : K → T → Bool
  has key = passes_by key_index.key_of (key_index.equal key)

  -- the table is in place, and no two live items share a key
  abbrev pub IsInSync : State T S → Type 0
  IsInSync s = TableIsInSync key_index.key_of key_index.equal (key_index.IsInPlace s) s.store

  -- what every call but `overwrite` preserves of one key index: a table that was in place, or in sync, stays so
  abbrev pub KeepsKeyIndex : State T S → State T S → Type 0
  KeepsKeyIndex old new =
      TableKeeps key_index.key_of key_index.equal
      (key_index.IsInPlace old) old.store
      (key_index.IsInPlace new) new.store

  -- a look-up of a key: what it may return, and that it returns what a scan would if the key index is in sync
  abbrev pub LooksUp : State T S → K → Option ℕ → Type 0
  LooksUp s key result = TableLooksUp (key_index.Finds s key result) (IsInSync s) s.store (has key) result

  -- the index is live, and its item has another key than this item
  abbrev pub ChangesKeyAt : State T S → ℕ → T → Type 0
  ChangesKeyAt s ix item = ChangesAt key_index.key_of key_index.equal s.store ix item

  -- the command replaces the item at a live index by one with another key
  abbrev pub ChangesKey : State T S → Command T K1 K2 → Type 0
  ChangesKey old (Overwrite ix item) = ChangesKeyAt old ix item
  ChangesKey old command = ⊥

  -- what is reported is what a scan of the live items returns
  abbrev pub ReportsScan : Store T → Report K → Type 0
  ReportsScan s Reports_nothing = ⊤
  ReportsScan s (Reports_found key result) = AnswersScan s (has key) result
  ReportsScan s (Reports_all indexes) = key_index.Lists s indexes

  -- a list of all indexes: if the key index is in sync, it is one that a scan of the live items returns
  abbrev pub ListsAsScan : State T S → List ℕ → Type 0
  ListsAsScan s indexes = IsInSync s → key_index.Lists s.store indexes

  -- what a command with its reply reports of keys is what a scan of the live items returns
  abbrev pub AsScan : Store T → Command T K1 K2 → Reply T → Type 0
  AsScan s command reply = ReportsScan s (key_index.report command reply)

module _ {T S K1 K2 : Type 0} (keys : Keys T K1 K2 S) where
  -- the hash of a first key under the hasher's state
  abbrev pub hash_in : State T S → K1 → ℕ
  hash_in s key = keys.hash_first s.hasher key

  -- what is reported of first keys
  abbrev pub report_first : Command T K1 K2 → Reply T → Report K1
  report_first (Insert item) (Inserted ix) = Reports_found (keys.first item) None
  report_first (Insert item) (Refused refusal) = Reports_found (keys.first item) (finds_reported (Err refusal)).0
  report_first (Find1 key) (Found found) = Reports_found key found
  report_first (Remove1 key) (Removed removed) = Reports_found key (option_map (λ r. r.0) removed)
  report_first command reply = Reports_nothing

  -- what is reported of second keys
  abbrev pub report_second : Command T K1 K2 → Reply T → Report K2
  report_second (Insert item) (Inserted ix) = Reports_found (keys.second item) None
  report_second (Insert item) (Refused refusal) = Reports_found (keys.second item) (finds_reported (Err refusal)).1
  report_second (Find2 key) (Found found) = Reports_found key found
  report_second (Remove2 key) (Removed removed) = Reports_found key (option_map (λ r. r.0) removed)
  report_second Walk (Walked indexes) = Reports_all indexes.items
  report_second command reply = Reports_nothing

  -- A look-up returns an index that is filed under the key's hash and whose item has the key; `None` if and only if
  -- there is none. In place, each live index is filed under the hash of its item's key.
  abbrev pub first_key_index : KeyIndex T S K1 K2 K1
  first_key_index =
      record {
        key_of = keys.first;
        equal = keys.equal_first;
        Finds = λ s key.
            hashed.Finds s.store s.filed (hash_in s key) (passes_by keys.first (keys.equal_first key));
        IsInPlace = λ s. hashed.IsInPlace keys.first (first_hashing keys s.hasher) s.store s.filed;
        Lists = λ s indexes. HasExactly s (Contains indexes);
        report = report_first;
      }

  -- A look-up returns an index whose item has the key, or none; if the key index is in place, none only if no item has
  -- the key. In place, the order is sorted by key, ties by index.
  abbrev pub second_key_index : KeyIndex T S K1 K2 K2
  second_key_index =
      record {
        key_of = keys.second;
        equal = equal_second keys;
        Finds = λ s key. ordered.Finds keys.second keys.compare_second s.store s.order (keys.compare_second key);
        IsInPlace = λ s. ordered.IsInPlace keys.second keys.compare_second s.store s.order;
        Lists = ordered.IsSortedScan keys.second keys.compare_second;
        report = report_second;
      }

  -- Each live index is filed under the hash of its item's first key, and the first keys of live items are pairwise
  -- distinct.
  abbrev pub FirstKeysInSync : State T S → Type 0
  FirstKeysInSync = IsInSync first_key_index

  -- The order is sorted, and the second keys of live items are pairwise distinct.
  abbrev pub SecondKeysInSync : State T S → Type 0
  SecondKeysInSync = IsInSync second_key_index

  -- both tables are in sync with the keys of the live items
  pub record AreInSync (s : State T S) : Type 0 where
    pub first : FirstKeysInSync s
    pub second : SecondKeysInSync s

  -- what every call but `overwrite` preserves: the state is paired, and a table that was in place, or in sync, stays so
  pub record Keeps (old new : State T S) : Type 0 where
    pub paired : IsPaired old × IsPaired new
    pub first_keys : KeepsKeyIndex first_key_index old new
    pub second_keys : KeepsKeyIndex second_key_index old new

  -- what a call that replaces the item at an index by this one preserves: the key index of each key that stays
  pub record KeepsUnlessChanged (old : State T S) (ix : ℕ) (item : T) (new : State T S) : Type 0 where
    pub paired : IsPaired old × IsPaired new
    pub first_keys : (ChangesKeyAt first_key_index old ix item → ⊥) → KeepsKeyIndex first_key_index old new
    pub second_keys : (ChangesKeyAt second_key_index old ix item → ⊥) → KeepsKeyIndex second_key_index old new
