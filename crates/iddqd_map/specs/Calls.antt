-- What the calls of a map that change items may return, and what they leave.
use Rattle.std.specs.Prelude.{◌≡◌, ◌⊎◌, ◌↔◌, ◌<◌, ◌≤◌, ℕ, Bool, true, not, List, [], length, map, Option, Some, None, Result, Ok, Err}
use Rattle.std.specs.Borrow.{Bor}
use Rattle.std.specs.Fn.{Once, FnOnceReturnsAt}
use Rattle.std.specs.List.{Contains}
use Rattle.iddqd.specs.Store.{Store, IsFull, get, live_count, next_index, inserted, rebound}
use Rattle.iddqd.specs.Compaction.{compacted}
use Rattle.iddqd_keys.specs.KeyWalk.{index_with_item}
use Rattle.iddqd_keys.specs.Scan.{IsLive, IsHit, HasNoHit, AnswersScan}
use Rattle.iddqd_map.specs.Map.{MapState, FindsItem, room}
use Rattle.iddqd_map.specs.Memory.{MakesRoom}
use Rattle.iddqd_keys.specs.Removals.{IsIncreasing, padded, removed_all}
use Rattle.iddqd_map.specs.Several.{HasNoOther}
use Rattle.iddqd_map.specs.declared.refusal.InsertRefusal.{InsertRefusal}
use Rattle.iddqd_map.specs.declared.refusal.InsertRefusal.TheVariants.{Duplicate, Full, Memory}
use Rattle.iddqd_map.specs.declared.refusal.OverwriteRefusal.{OverwriteRefusal}
use Rattle.iddqd_map.specs.declared.refusal.OverwriteRefusal.TheVariants.{Full as NoSlot, Memory as NoMemory}
use Rattle.iddqd_map.specs.declared.refusal.ReplaceRefusal.{ReplaceRefusal}
use Rattle.iddqd_map.specs.declared.refusal.ReplaceRefusal.TheVariants.{Missing, Duplicate as Taken, Memory as Refused}

-- f may be called at a `&` to the item that passes the test, if one does
abbrev pub MayChange : {F T R : Type 0} → Once F (Bor T × Unit {0}) R → F → Store T → (T → Bool) → Type 0
MayChange {F} {T} g f s test = (item : Bor T) → FindsItem s test (Some item.now) → g.pre f (item, tt)

-- the item was refused since stored items have some of its unique keys
abbrev pub IsDuplicate : {T C : Type 0} → InsertRefusal T C → Type 0
IsDuplicate (Duplicate back at) = Unit {0}
IsDuplicate refusal = ⊥

-- the contents are compacted, and the counts of the map's memory stay
pub record Compacts {T : Type 0} (old new : MapState T) : Type 0 where
  pub store : new.store ≡ compacted old.store
  pub memory : new.memory ≡ old.memory

-- `alike x y` says that the items share a unique key, and `grown n` is the most by which the cells grow in
-- an insert that leaves n indexes. Below, a key is a unique one.
module _ {T : Type 0} (alike : T → T → Bool) (grown : ℕ → ℕ) where
  -- An item that shares no key with another was stored at the next index.
  pub record InsertsAt (old : MapState T) (item : T) (ix : ℕ) (new : MapState T) : Type 0 where
    pub no_conflict : HasNoHit old.store (alike item)
    pub not_full : IsFull old.store → ⊥
    pub index : ix ≡ next_index old.store
    pub stored : new.store ≡ inserted old.store item
    pub memory : MakesRoom grown old new.memory

  -- a refusal for fullness: the item comes back, it shares no key, there is no slot for it, and nothing changed
  pub record RefusesFull (old : MapState T) (item back : T) (new : MapState T) : Type 0 where
    pub given_back : back ≡ item
    pub no_conflict : HasNoHit old.store (alike item)
    pub full : IsFull old.store
    pub unchanged : new ≡ old

  -- A refusal for memory: the item comes back, it shares no key, the limit isn't reached, and there was no room. The
  -- contents stay.
  pub record RefusesMemory (old : MapState T) (item back : T) (new : MapState T) : Type 0 where
    pub given_back : back ≡ item
    pub no_conflict : HasNoHit old.store (alike item)
    pub not_full : IsFull old.store → ⊥
    pub no_room : room old ≡ 0
    pub store_stays : new.store ≡ old.store
    pub memory : MakesRoom grown old new.memory

  -- `conflicts s item at` says that `at` reports the items that share a key with this one
  module _ {C : Type 0} (conflicts : Store T → T → C → Type 0) where
    -- what an insert may return and leave
    abbrev pub Inserts : MapState T → T → Result ℕ (InsertRefusal T C) → MapState T → Type 0
    Inserts old item (Ok ix) new = InsertsAt old item ix new
    Inserts old item (Err (Duplicate back at)) new = (back ≡ item) × conflicts old.store item at × (new ≡ old)
    Inserts old item (Err (Full back)) new = RefusesFull old item back new
    Inserts old item (Err (Memory back)) new = RefusesMemory old item back new

  -- these are exactly the live indexes whose items share a key with this one, by rising index
  pub record AreConflicts (s : Store T) (item : T) (indexes : List ℕ) : Type 0 where
    pub each : (ix : ℕ) → Contains indexes ix ↔ IsHit s (alike item) ix
    pub rising : IsIncreasing indexes

  -- The items that share a key were removed by rising index, and come back in this order from the first place on, each
  -- with the index that it had. Then the new item was stored at the next index. If one was removed, the counts of the
  -- memory stay.
  pub record OverwritesAt
      (places : ℕ) (old : MapState T) (item : T) (ix : ℕ) (given_back : List (Option (ℕ × T))) (new : MapState T)
      : Type 0 where
    pub conflicts : List ℕ
    pub are_conflicts : AreConflicts old.store item conflicts
    pub at_most : length conflicts ≤ places
    pub not_full : HasNoHit old.store (alike item) → IsFull old.store → ⊥
    pub items : given_back ≡ padded places (map (index_with_item old.store) conflicts)
    pub index : ix ≡ next_index (removed_all old.store conflicts)
    pub stored : new.store ≡ inserted (removed_all old.store conflicts) item
    pub memory : MakesRoom grown old new.memory
    pub same_memory : (HasNoHit old.store (alike item) → ⊥) → new.memory ≡ old.memory

  -- `may_need_memory` says that an insert after a removal may need memory, if there are more items than the capacity
  module _ (may_need_memory : Bool) where
    -- A refusal for memory by an insert that would overwrite items, before any was removed.
    pub record RefusesToOverwrite (old : MapState T) (item back : T) (new : MapState T) : Type 0 where
      pub given_back : back ≡ item
      pub conflict : (ix : ℕ) × IsHit old.store (alike item) ix
      pub lacks : may_need_memory ≡ true
      pub past : old.memory.capacity < live_count old.store
      pub unchanged : new ≡ old

    -- what an insert that overwrites may return and leave, with this number of places for the items that come back
    abbrev pub Overwrites :
        ℕ → MapState T → T → Result (ℕ × List (Option (ℕ × T))) (OverwriteRefusal T) → MapState T → Type 0
    Overwrites places old item (Ok (ix, given_back)) new = OverwritesAt places old item ix given_back new
    Overwrites places old item (Err (NoSlot back)) new = RefusesFull old item back new
    Overwrites places old item (Err (NoMemory back)) new =
        RefusesMemory old item back new ⊎ RefusesToOverwrite old item back new

    -- the same for an insert that puts the removed items into an array of empty places; after a refusal these are still
    -- empty
    abbrev pub OverwritesInto :
        ℕ → MapState T → T → Result ℕ (OverwriteRefusal T) → List (Option (ℕ × T)) → MapState T → Type 0
    OverwritesInto places old item (Ok ix) given_back new = Overwrites places old item (Ok (ix, given_back)) new
    OverwritesInto places old item (Err refusal) given_back new =
        Overwrites places old item (Err refusal) new × (given_back ≡ padded places [])

-- `same x y` says that the items share all keys, and `may_need_memory` the same as above
module _ {T : Type 0} (alike same : T → T → Bool) (may_need_memory : Bool) where
  -- The item at the index was replaced by one that shares no key with any other. The counts of the memory stay.
  pub record Becomes (old : MapState T) (ix : ℕ) (item was : T) (new : MapState T) : Type 0 where
    pub live : get old.store ix ≡ Some was
    pub no_other : HasNoOther old.store (alike item) ix
    pub left : new.store ≡ rebound old.store ix item
    pub memory : new.memory ≡ old.memory

  -- The replacement would change a key of the item at the index, no other item has a key of the new one, and there are
  -- more items than the tables can hold without more memory.
  pub record LacksRoom (old : MapState T) (ix : ℕ) (item : T) : Type 0 where
    pub changed : IsHit old.store (λ was. not (same item was)) ix
    pub no_other : HasNoOther old.store (alike item) ix
    pub lacks : may_need_memory ≡ true
    pub past : old.memory.capacity < live_count old.store

  -- `taken s ix item at` says that `at` reports the items, other than the one at the index, that have keys of this item
  module _ {C : Type 0} (taken : Store T → ℕ → T → C → Type 0) where
    -- what a replacement of the item at a live index may return and leave
    abbrev pub ReplacesAt : MapState T → ℕ → T → Result T (ReplaceRefusal T C) → MapState T → Type 0
    ReplacesAt old ix item (Ok was) new = Becomes old ix item was new
    ReplacesAt old ix item (Err (Missing back)) new = ⊥
    ReplacesAt old ix item (Err (Taken back at)) new = (back ≡ item) × taken old.store ix item at × (new ≡ old)
    ReplacesAt old ix item (Err (Refused back)) new = (back ≡ item) × LacksRoom old ix item × (new ≡ old)

    -- what a replacement at an index may return and leave: `Missing` if and only if no item is there
    abbrev pub ReplacesIfLive : MapState T → ℕ → T → Result T (ReplaceRefusal T C) → MapState T → Type 0
    ReplacesIfLive old ix item (Err (Missing back)) new = (back ≡ item) × (get old.store ix ≡ None) × (new ≡ old)
    ReplacesIfLive old ix item result new = IsLive old.store ix × ReplacesAt old ix item result new

    -- what a replacement of the item that passes the test may return and leave
    abbrev pub Replaces : MapState T → (T → Bool) → T → Result T (ReplaceRefusal T C) → MapState T → Type 0
    Replaces old test item (Err (Missing back)) new = (back ≡ item) × HasNoHit old.store test × (new ≡ old)
    Replaces old test item result new =
        (ix : ℕ) × AnswersScan old.store test (Some ix) × ReplacesAt old ix item result new

    -- the same for a new item that is made of the one that passes: `gives was item` says that it may be
    abbrev pub ChangesBy :
        (T → T → Type 0) → MapState T → (T → Bool) → Result T (ReplaceRefusal T C) → MapState T → Type 0
    ChangesBy gives old test result new =
        (ix : ℕ) × AnswersScan old.store test (Some ix)
        × ((was item : T) × (get old.store ix ≡ Some was) × gives was item × ReplacesAt old ix item result new)

    -- what a change of the item that passes the test may return and leave
    abbrev pub Changes :
        (T → T → Type 0) → MapState T → (T → Bool) → Result (Option T) (ReplaceRefusal T C) → MapState T → Type 0
    Changes gives old test (Ok None) new = HasNoHit old.store test × (new ≡ old)
    Changes gives old test (Ok (Some was)) new = ChangesBy gives old test (Ok was) new
    Changes gives old test (Err refusal) new = ChangesBy gives old test (Err refusal) new

    -- the same for a closure f that makes the new item
    abbrev pub ChangesByCall :
        {F : Type 0} → Once F (Bor T × Unit {0}) T → F → MapState T → (T → Bool)
        → Result (Option T) (ReplaceRefusal T C) → MapState T → Type 0
    ChangesByCall g f = Changes (FnOnceReturnsAt g f)
