-- What calls leave that put an item in the place of others, and why they refuse it.
use Rattle.std.specs.Prelude.{◌≡◌, ◌↔◌, ◌<◌, ℕ, Bool, true, List, map, Option, Some, None}
use Rattle.std.specs.List.{Contains}
use Rattle.iddqd_maps.specs.Map.{MapState, IsOnly, room}
use Rattle.iddqd_maps.specs.KeyWalk.{index_with_item}
use Rattle.iddqd_maps.specs.Removals.{IsIncreasing, padded, removed_all}
use Rattle.iddqd_maps.specs.Scan.{IsHit, HasNoHit, AnswersScan}
use Rattle.iddqd_maps.specs.Several.{HasNoOther, HitsOther}
use Rattle.iddqd_maps.specs.Store.{IsFull, Store, get, inserted, live_count, next_index, rebound}
use Rattle.iddqd_maps.specs.declared.refusal.InsertRefusal.{InsertRefusal}
use Rattle.iddqd_maps.specs.declared.refusal.InsertRefusal.TheVariants.{Duplicate, Full, Memory}
use Rattle.iddqd_maps.specs.declared.refusal.OverwriteRefusal.{OverwriteRefusal}
use Rattle.iddqd_maps.specs.declared.refusal.OverwriteRefusal.TheVariants.{Full as NoSlot, Memory as NoMemory}
use Rattle.iddqd_maps.specs.declared.refusal.ReplaceRefusal.{ReplaceRefusal}
use Rattle.iddqd_maps.specs.declared.refusal.ReplaceRefusal.TheVariants.{Missing, Duplicate as Taken, Memory as Refused}

-- an item passes the test
abbrev pub HasHit : {T : Type 0} → Store T → (T → Bool) → Type 0
HasHit s test = (ix : ℕ) × IsHit s test ix

-- just one item passes the first test, and another one passes the second
abbrev pub HitsBeside : {T : Type 0} → Store T → (T → Bool) → (T → Bool) → Type 0
HitsBeside s test other = (ix : ℕ) × AnswersScan s test (Some ix) × HitsOther s other ix

-- `alike x y` says that the items share a key
module _ {T : Type 0} (alike : T → T → Bool) where
  -- The one item that passes the test was replaced by this one, which shares no key with any other. All else stays.
  pub record Exchanges (test : T → Bool) (item : T) (old : MapState T) (was : T) (new : MapState T) : Type 0 where
    pub ix : ℕ
    pub found : IsOnly old.store test ix was
    pub unlike : HasNoOther old.store (alike item) ix
    pub left : new.store ≡ rebound old.store ix item
    pub memory : new.memory ≡ old.memory

  -- What a call may return and leave that puts what `becomes` makes of the item that passes the test in its place. It
  -- returns `None` if and only if no item passes, and then nothing changes.
  abbrev pub ExchangesIfFound : (T → Bool) → (T → T) → MapState T → Option T → MapState T → Type 0
  ExchangesIfFound test becomes old (Some was) new = Exchanges test (becomes was) old was new
  ExchangesIfFound test becomes old None new = HasNoHit old.store test × (new ≡ old)

  -- Where items have one key: this one replaced the item with its key, which comes back, and no memory was taken; or no
  -- item had its key, and it was stored at the next index. All others stay.
  abbrev pub TakesOverOne : T → MapState T → ℕ → Option T → MapState T → Type 0
  TakesOverOne item old ix (Some was) new =
      IsOnly old.store (alike item) ix was × (new.store ≡ rebound old.store ix item) × (new.memory ≡ old.memory)
  TakesOverOne item old ix None new =
      HasNoHit old.store (alike item) × (ix ≡ next_index old.store) × (new.store ≡ inserted old.store item)

  -- The items that share a key with this one were removed, and come back by rising index, each with the
  -- index that it had, at most so many. This one is
  -- stored, and all others stay. If one was removed, no memory was taken.
  pub record TakesOver
      (places : ℕ) (item : T) (old : MapState T) (ix : ℕ) (back : List (Option (ℕ × T))) (new : MapState T)
      : Type 0 where
    pub removed : List ℕ
    pub each : (at : ℕ) → Contains removed at ↔ IsHit old.store (alike item) at
    pub rising : IsIncreasing removed
    pub given_back : back ≡ padded places (map (index_with_item old.store) removed)
    pub index : ix ≡ next_index (removed_all old.store removed)
    pub left : new.store ≡ inserted (removed_all old.store removed) item
    pub memory : (at : ℕ) → IsHit old.store (alike item) at → new.memory ≡ old.memory

  -- Why an item that was to take over comes back: none shares a key with it, and either there are as many as the limit
  -- allows, or there was no room and memory ran out.
  abbrev pub IsWhyNotTakenOver : T → MapState T → OverwriteRefusal T → Type 0
  IsWhyNotTakenOver item old (NoSlot back) = (back ≡ item) × HasNoHit old.store (alike item) × IsFull old.store
  IsWhyNotTakenOver item old (NoMemory back) = (back ≡ item) × HasNoHit old.store (alike item) × (room old ≡ 0)

  -- Why an item that was to be added comes back: one of these, or another one shares a key with it.
  abbrev pub IsWhyNotAdded : {C : Type 0} → T → MapState T → InsertRefusal T C → Type 0
  IsWhyNotAdded item old (Duplicate back at) = (back ≡ item) × HasHit old.store (alike item)
  IsWhyNotAdded item old (Full back) = (back ≡ item) × HasNoHit old.store (alike item) × IsFull old.store
  IsWhyNotAdded item old (Memory back) = (back ≡ item) × HasNoHit old.store (alike item) × (room old ≡ 0)

  -- Why an item that was made in place of the one at an index comes back, and none is there then: another one shares a
  -- key with it, or memory ran out, which comes only where `may_need_memory` is true, and past the capacity.
  abbrev pub IsWhyGone : {C : Type 0} → Bool → ℕ → T → MapState T → InsertRefusal T C → Type 0
  IsWhyGone may_need_memory ix made old (Duplicate back at) = (back ≡ made) × HitsOther old.store (alike made) ix
  IsWhyGone may_need_memory ix made old (Full back) = ⊥
  IsWhyGone may_need_memory ix made old (Memory back) =
      (back ≡ made) × (may_need_memory ≡ true) × (old.memory.capacity < live_count old.store)

  -- the same of what `becomes` makes of the item at the index
  abbrev pub IsWhyGoneAt : {C : Type 0} → Bool → ℕ → (T → T) → MapState T → InsertRefusal T C → Type 0
  IsWhyGoneAt may_need_memory ix becomes old refusal =
      (was : T) × (get old.store ix ≡ Some was) × IsWhyGone may_need_memory ix (becomes was) old refusal

  -- and of what it makes of the item that passes the test
  abbrev pub IsWhyGoneBy : {C : Type 0} → Bool → (T → Bool) → (T → T) → MapState T → InsertRefusal T C → Type 0
  IsWhyGoneBy may_need_memory test becomes old refusal =
      (ix : ℕ) × (was : T) × IsOnly old.store test ix was × IsWhyGone may_need_memory ix (becomes was) old refusal

  -- an item at another index than this one shares a key with the item, whatever is reported
  abbrev pub IsKeyTaken : {C : Type 0} → Store T → ℕ → T → C → Type 0
  IsKeyTaken s ix item at = HitsOther s (alike item) ix

-- `taken s ix item at` says of a report that items at other indexes than this one share keys with the item.
-- `may_need_memory` says that there is a key that goes by its order: if it changes, memory may run out past the
-- capacity.
module _ {T C : Type 0} (taken : Store T → ℕ → T → C → Type 0) (may_need_memory : Bool) where
  -- Why an item that was to stand at an index comes back: no item is there, or others share keys with it.
  abbrev pub IsWhyNotAt : ℕ → T → MapState T → ReplaceRefusal T C → Type 0
  IsWhyNotAt ix item old (Missing back) = (back ≡ item) × (get old.store ix ≡ None)
  IsWhyNotAt ix item old (Taken back at) = (back ≡ item) × taken old.store ix item at
  IsWhyNotAt ix item old (Refused back) =
      (back ≡ item) × (may_need_memory ≡ true) × (old.memory.capacity < live_count old.store)

  -- the same of one that was to stand in the place of the item that passes the test
  abbrev pub IsWhyNot : (T → Bool) → T → MapState T → ReplaceRefusal T C → Type 0
  IsWhyNot test item old (Missing back) = (back ≡ item) × HasNoHit old.store test
  IsWhyNot test item old refusal = (ix : ℕ) × AnswersScan old.store test (Some ix) × IsWhyNotAt ix item old refusal

  -- and of what `becomes` makes of that item
  abbrev pub IsWhyNotChanged : (T → Bool) → (T → T) → MapState T → ReplaceRefusal T C → Type 0
  IsWhyNotChanged test becomes old refusal =
      (ix : ℕ) × (was : T) × IsOnly old.store test ix was × IsWhyNotAt ix (becomes was) old refusal
