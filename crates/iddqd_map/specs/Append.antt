-- What `append` leaves in the map that gets items and in the map that gives them.
use Rattle.std.specs.Prelude.{◌≡◌, ◌⊎◌, if◌then◌else◌, ℕ, zero, suc, Bool, List, length, map, Option, Some, None, Result, Ok, Err}
use Rattle.std.specs.Fn.{Mut, Called, Takes}
use Rattle.std.specs.List.{Contains, FoldsTo, list_any}
use Rattle.iddqd.specs.LiveItems.{live_items}
use Rattle.iddqd.specs.Store.{Store, IsFull, get, inserted, next_index, removed, slot_count}
use Rattle.iddqd.specs.declared.item_set.GrowError.{GrowError}
use Rattle.iddqd.specs.declared.item_set.GrowError.TheVariants.{Full, Memory}
use Rattle.iddqd_keys.specs.Removals.{IsIncreasing}
use Rattle.iddqd_keys.specs.Scan.{HasNoHit, IsHit}
use Rattle.iddqd_map.specs.Calls.{InsertsAt, RefusesFull, RefusesMemory}
use Rattle.iddqd_map.specs.Map.{MapState}
use Rattle.iddqd_map.specs.Memory.{MakesRoom}
use Rattle.iddqd_map.specs.Retain.{AsksInTurn}
use Rattle.iddqd_map.specs.declared.map.inserts.NotReady.{NotReady}
use Rattle.iddqd_map.specs.declared.map.inserts.NotReady.TheVariants.{Conflict, Refused}
use Rattle.iddqd_map.specs.declared.refusal.StoppedAppend.{StoppedAppend}

-- how many items were moved
abbrev pub moved_count : Result ℕ StoppedAppend → ℕ
moved_count (Ok count) = count
moved_count (Err stopped) = stopped.moved

-- why the call stopped, if it did
abbrev pub stopped_by : Result ℕ StoppedAppend → Option GrowError
stopped_by (Ok count) = None
stopped_by (Err stopped) = Some stopped.error

-- A move is the index that an item had and the one that it got. The closure may be called with it; and what such a call
-- leaves of the closure.
abbrev pub TakesMove : {F : Type 0} → Mut F (ℕ × (ℕ × Unit {0})) (Unit {0}) → F → ℕ × ℕ → Type 0
TakesMove g f move = Takes g f (move.0, (move.1, tt))

abbrev pub GivesMove : {F : Type 0} → Mut F (ℕ × (ℕ × Unit {0})) (Unit {0}) → F → ℕ × ℕ → F → Type 0
GivesMove g f move f' = Called g f (move.0, (move.1, tt)) tt f'

module _ {F : Type 0} (g : Mut F (ℕ × (ℕ × Unit {0})) (Unit {0})) where
  -- f may be called with any moves in turn, in every state that such calls lead to
  abbrev pub CanReport : F → Type 0
  CanReport f = (moves : List (ℕ × ℕ)) → AsksInTurn (TakesMove g) (λ p x (b : Bool) q. GivesMove g p x q) f moves

  -- equivalent to `CanReport`, and in the form of `MayAsk` for the same reason
  abbrev pub MayReport : F → Type 0
  MayReport f = (((p : F) (move : ℕ × ℕ) → TakesMove g p move) → CanReport f) → CanReport f

-- Once the item at an index was moved, if it was, the closure was called with the move.
abbrev pub ReportsIfMoved : {F : Type 0} → (F → ℕ × ℕ → F → Type 0) → ℕ → Option ℕ → F → F → Type 0
ReportsIfMoved give ix None f f' = f' ≡ f
ReportsIfMoved give ix (Some at) f f' = give f (ix, at) f'

-- Of two stores between which so many items were moved, by rising index: the closure was called with each move in turn.
-- Each of these items was under the first index in `from`, and is under the second in `into`. All others stay in
-- `from`. `give p move q` says that a call with the move in the state p may leave the state q.
pub record ReportsMoves
    {F T : Type 0} (give : F → ℕ × ℕ → F → Type 0) (f last : F) (from new_into new_from : Store T) (count : ℕ)
    : Type 0 where
  pub moves : List (ℕ × ℕ)
  pub counted : count ≡ length moves
  pub reported : FoldsTo give f moves last
  pub rising : IsIncreasing (map (λ move. move.0) moves)
  pub moved : (move : ℕ × ℕ) → Contains moves move
      → (item : T) × (get from move.0 ≡ Some item) × (get new_into move.1 ≡ Some item)
  pub gone : (ix : ℕ) → Contains (map (λ move. move.0) moves) ix → get new_from ix ≡ None
  pub others : (ix : ℕ) → (Contains (map (λ move. move.0) moves) ix → ⊥) → get new_from ix ≡ get from ix

-- each item of the old store is still under its index in the new one, or it is in the other store
abbrev pub KeepsOrMoves : {T : Type 0} → (old new other : Store T) → Type 0
KeepsOrMoves {T} old new other =
    (ix : ℕ) (item : T) → get old ix ≡ Some item
    → (get new ix ≡ Some item) ⊎ ((at : ℕ) × (get other at ≡ Some item))

-- `alike x y` says that the items share a unique key, and `grown n` is the most by which the cells grow in an insert
-- that leaves n indexes. Below, a key is a unique one.
module _ {T : Type 0} (alike : T → T → Bool) where
  -- an item of the store shares a key with this one
  abbrev pub has_alike : Store T → T → Bool
  has_alike s item = list_any (alike item) (live_items s)

  -- each item of the second store shares a key with one of the first
  abbrev pub EachConflicts : Store T → Store T → Type 0
  EachConflicts s t = (ix : ℕ) (item : T) → get t ix ≡ Some item → (at : ℕ) × IsHit s (alike item) at

  -- Two stores after the item in this slot of the second, if there is one, was moved to the next index of the first. If
  -- the first has an item that shares a key with it, it stays.
  abbrev pub moved_slot : ℕ → Option T → Store T → Store T → Store T × Store T
  moved_slot ix None into from = (into, from)
  moved_slot ix (Some item) into from =
      if has_alike into item then (into, from) else (inserted into item, removed from ix)

  -- the two stores after the same for each of the first n slots of the second, by rising index
  abbrev pub moved_slots : ℕ → Store T → Store T → Store T × Store T
  moved_slots zero into from = (into, from)
  moved_slots (suc n) into from =
      let so_far = moved_slots n into from in
      moved_slot n (get from n) so_far.0 so_far.1

  module _ (grown : ℕ → ℕ) where
    -- why an insert of an item that shares no key is refused, and what the refusal leaves: as `insert_unique`
    abbrev pub RefusesFor : GrowError → MapState T → T → MapState T → Type 0
    RefusesFor Full old item new = RefusesFull alike grown old item item new
    RefusesFor Memory old item new = RefusesMemory alike grown old item item new

    -- The memory for an insert of this item was taken. It shares no key, and `ix` is the index that it will have.
    pub record Prepares (old : MapState T) (item : T) (ix : ℕ) (new : MapState T) : Type 0 where
      pub no_conflict : HasNoHit old.store (alike item)
      pub not_full : IsFull old.store → ⊥
      pub index : ix ≡ next_index old.store
      pub store_stays : new.store ≡ old.store
      pub memory : MakesRoom grown old new.memory

    -- Why an insert of this item can't be prepared, and what is left. `conflicts s item at` says that `at` reports the
    -- items that share a key with this one.
    abbrev pub IsPrevented :
        {C : Type 0} → (Store T → T → C → Type 0) → MapState T → T → MapState T → NotReady C → Type 0
    IsPrevented conflicts old item new (Conflict at) = conflicts old.store item at × (new ≡ old)
    IsPrevented conflicts old item new (Refused error) = RefusesFor error old item new

    -- What the move of the item at an index may answer and leave: its new index; or `None` if no item is there, or one
    -- that shares a key, which stays; or why it is refused, and then it stays.
    abbrev pub AppendsItem :
        ℕ → Option T → (into from : MapState T) → Result (Option ℕ) GrowError → (new_into new_from : MapState T)
        → Type 0
    AppendsItem ix None into from (Ok None) new_into new_from = (new_into ≡ into) × (new_from ≡ from)
    AppendsItem ix None into from answer new_into new_from = ⊥
    AppendsItem ix (Some item) into from (Ok (Some at)) new_into new_from =
        InsertsAt alike grown into item at new_into × (new_from ≡ record from { store = removed from.store ix })
    AppendsItem ix (Some item) into from (Ok None) new_into new_from =
        ((at : ℕ) × IsHit into.store (alike item) at) × (new_into ≡ into) × (new_from ≡ from)
    AppendsItem ix (Some item) into from (Err error) new_into new_from =
        RefusesFor error into item new_into × (new_from ≡ from)

    -- It goes over all slots, or stops at the first item that is refused, which is in the slot behind those that it has
    -- passed. `before` and `new` are the map that gets the items before and after the refusal.
    abbrev pub StopsAt : Option GrowError → ℕ → Store T → (before new : MapState T) → Type 0
    StopsAt None passed from before new = (passed ≡ slot_count from) × (new ≡ before)
    StopsAt (Some error) passed from before new =
        (item : T) × (get from passed ≡ Some item) × RefusesFor error before item new

    -- What a call that moves the items of one map into another may answer, and what it leaves in both. Each item that
    -- is moved takes no more memory than an insert of it. The memory of the second map stays.
    pub record Appends
        (into from : MapState T) (answer : Result ℕ StoppedAppend) (new_into new_from : MapState T)
        : Type 0 where
      pub passed : ℕ
      pub items : List T
      pub before : MapState T
      pub in_turn : FoldsTo (λ m item n. (ix : ℕ) × InsertsAt alike grown m item ix n) into items before
      pub counted : moved_count answer ≡ length items
      pub stores : (new_into.store, new_from.store) ≡ moved_slots passed into.store from.store
      pub memory : new_from.memory ≡ from.memory
      pub stops : StopsAt (stopped_by answer) passed new_from.store before new_into
