-- How a call that inserts many items displaces those that are in the way, and what it leaves.
use Rattle.std.specs.Prelude.{◌≡◌, ◌++◌, ◌+◌, ◌⊎◌, ℕ, Bool, List, [], length, Option, Some, None, Result, Ok, Err}
use Rattle.std.specs.Fn.{Mut}
use Rattle.std.specs.Iterator.{Count, HoldsAlong, MakesProgress, YieldsThen}
use Rattle.std.specs.Iterator.SizeHint.{IsWithinCount}
use Rattle.std.specs.List.{Contains, FoldsTo}
use Rattle.std.specs.declared.alloc.AllocError.{AllocError}
use Rattle.iddqd.specs.LiveItems.{live_items}
use Rattle.iddqd.specs.Store.{Store, IsFull, get, inserted, live_count, next_index}
use Rattle.iddqd_hash.specs.Asks.{CanAsk}
use Rattle.iddqd_keys.specs.KeyWalk.{pairs_at}
use Rattle.iddqd_keys.specs.Removals.{removed_all}
use Rattle.iddqd_keys.specs.Scan.{HasNoHit}
use Rattle.iddqd_map.specs.Calls.{AreConflicts, RefusesFull, RefusesMemory, RefusesToOverwrite}
use Rattle.iddqd_map.specs.Map.{MapState}
use Rattle.iddqd_map.specs.Memory.{MakesRoom, ReservesItems}
use Rattle.iddqd_map.specs.Sweep.{GivesPair, TakesPair}
use Rattle.iddqd_map.specs.declared.refusal.OverwriteRefusal.{OverwriteRefusal}
use Rattle.iddqd_map.specs.declared.refusal.OverwriteRefusal.TheVariants.{Full, Memory}
use Rattle.iddqd_map.specs.declared.refusal.StoppedOverwrite.{StoppedOverwrite}

module _ {G T : Type 0} (g : Mut G (ℕ × (T × Unit {0})) (Unit {0})) where
  -- the closure may be called with the item, whatever the index
  abbrev pub TakesAnywhere : G → T → Type 0
  TakesAnywhere f x = (ix : ℕ) → TakesPair g f (ix, x)

  -- what a call with the item leaves of the closure, at some index; it answers nothing
  abbrev pub GivesSomewhere : G → T → Bool → G → Type 0
  GivesSomewhere f x b f' = (ix : ℕ) × GivesPair g f (ix, x) f'

-- of an iterator: `gives` says what a call of `next` gives
module _ {I G T : Type 0} (gives : I → Option T → I → Type 0) (g : Mut G (ℕ × (T × Unit {0})) (Unit {0})) where
  -- f may be called with each item of the store and with each that the iterator gives, at any index, in every state
  -- that such calls lead to
  abbrev pub CanDisplace : I → G → Store T → Type 0
  CanDisplace it f s =
      HoldsAlong gives it (λ came. CanAsk (TakesAnywhere g) (GivesSomewhere g) f (live_items s ++ came))

  -- equivalent to `CanDisplace`, and in the form of `MayAsk` for the same reason
  abbrev pub MayDisplace : I → G → Store T → Type 0
  MayDisplace it f s = (((p : G) (x : ℕ × T) → TakesPair g p x) → CanDisplace it f s) → CanDisplace it f s

-- The closure was called with each of these items and its index in turn. Each item that was stored before still is,
-- under its index, or it is one of these with that index, and the number of items is right. What the others of these
-- are, `OverwritesAll` says: items that the call inserted, and that a later item displaced. `give p x q` says that a
-- call with this index and item in the state p may leave the state q.
pub record HandsOver
    {G T : Type 0} (give : G → ℕ × T → G → Type 0) (gone last : G) (old new : Store T) (inserted : ℕ)
    : Type 0 where
  pub displaced : List (ℕ × T)
  pub handed : FoldsTo give gone displaced last
  pub counted : live_count new + length displaced ≡ live_count old + inserted
  pub kept : (ix : ℕ) (item : T) → get old ix ≡ Some item → (get new ix ≡ Some item) ⊎ Contains displaced (ix, item)

-- Of a map: `alike x y` says that the items share a unique key, and `grown n` is the most by which the cells grow in an
-- insert that leaves n indexes. Below, a key is a unique one.
module _ {T : Type 0} (alike : T → T → Bool) (grown : ℕ → ℕ) where
  -- The items that share a key were removed by rising index: these, each with its index. Then the new item was stored
  -- at the next index. If one was removed, the counts of the memory stay.
  pub record DisplacesAt (old : MapState T) (item : T) (ix : ℕ) (displaced : List (ℕ × T)) (new : MapState T)
      : Type 0 where
    pub conflicts : List ℕ
    pub are_conflicts : AreConflicts alike grown old.store item conflicts
    pub not_full : HasNoHit old.store (alike item) → IsFull old.store → ⊥
    pub items : displaced ≡ pairs_at old.store conflicts
    pub index : ix ≡ next_index (removed_all old.store conflicts)
    pub stored : new.store ≡ inserted (removed_all old.store conflicts) item
    pub memory : MakesRoom grown old new.memory
    pub same_memory : (HasNoHit old.store (alike item) → ⊥) → new.memory ≡ old.memory

  -- the next item was inserted, and what it displaced comes behind what was displaced before
  abbrev pub DisplacesNext : MapState T × List (ℕ × T) → T → MapState T × List (ℕ × T) → Type 0
  DisplacesNext before item after =
      (ix : ℕ) × (more : List (ℕ × T)) × DisplacesAt before.0 item ix more after.0 × (after.1 ≡ before.1 ++ more)

  -- The iterator gave these items, and each was inserted before the next came. After them it gave `next`: an item, or
  -- `None` at its end. `rest` is the iterator then, `new` the map, and `displaced` are all items that were displaced,
  -- in this order. `gives` says what a call of `next` gives.
  pub record OverwritesItems
      {I : Type 0} (gives : I → Option T → I → Type 0) (it : I) (old : MapState T) (items : List T) (next : Option T)
      (rest : I) (new : MapState T) (displaced : List (ℕ × T))
      : Type 0 where
    pub given : YieldsThen gives it items next rest
    pub in_turn : FoldsTo DisplacesNext (old, []) items (new, displaced)

  -- `may_need_memory` says that an insert after a removal may need memory, if there are more items than the capacity
  module _ (may_need_memory : Bool) where
    -- why an item isn't inserted, and what the refusal leaves
    abbrev pub RefusesItem : MapState T → T → OverwriteRefusal T → MapState T → Type 0
    RefusesItem old item (Full back) new = RefusesFull alike grown old item back new
    RefusesItem old item (Memory back) new =
        RefusesMemory alike grown old item back new
        ⊎ RefusesToOverwrite alike grown may_need_memory old item back new

    -- If there is no refusal, these are all items of the iterator, and each was inserted. Otherwise the refusal is the
    -- answer to the next item, and the iterator has what comes after that item.
    abbrev pub OverwritesUntil :
        {I : Type 0} → (I → Option T → I → Type 0) → I → MapState T → List T → Option (OverwriteRefusal T) → I
        → MapState T → List (ℕ × T) → Type 0
    OverwritesUntil gives it old items None rest new displaced =
        OverwritesItems gives it old items None rest new displaced
    OverwritesUntil gives it old items (Some refusal) rest new displaced =
        (item : T) × (before : MapState T) × OverwritesItems gives it old items (Some item) rest before displaced
        × RefusesItem before item refusal new

    -- `give p x q` says that a call of the closure with this index and item in the state p may leave the state q
    module _ {G : Type 0} (give : G → ℕ × T → G → Type 0) where
      -- what an insert of an item may answer, and what it leaves of the map and of the closure
      abbrev pub Displaces : MapState T → G → T → Result ℕ (OverwriteRefusal T) → MapState T → G → Type 0
      Displaces old gone item (Ok ix) new last =
          (displaced : List (ℕ × T)) × DisplacesAt old item ix displaced new × FoldsTo give gone displaced last
      Displaces old gone item (Err refusal) new last = RefusesItem old item refusal new × (last ≡ gone)

      -- `remaining` says how many items an iterator gives at most
      module _ {I : Type 0} (gives : I → Option T → I → Type 0) (remaining : I → Count) where
        -- the same of the next item of the iterator: `None` if and only if it is at its end. `can` says that `next` may
        -- be called.
        abbrev pub DisplacesByNext :
            (I → Type 0) → I → MapState T → G → Option (Result ℕ (OverwriteRefusal T)) → I → MapState T → G → Type 0
        DisplacesByNext can it old gone None rest new last = gives it None rest × (new ≡ old) × (last ≡ gone)
        DisplacesByNext can it old gone (Some answer) rest new last =
            (item : T) × gives it (Some item) rest × MakesProgress can remaining it (Some item) rest
            × Displaces old gone item answer new last

        -- `most n` is the most cells that are taken for n indexes
        module _ (most : ℕ → ℕ) where
          -- Memory was reserved for no more items than the iterator can give. If it ran out, the inserts went on with
          -- what there was. They went on until all items were inserted, or the first was refused. The closure was
          -- called with each item that was displaced, in this order.
          pub record OverwritesAll
              (it : I) (old : MapState T) (gone : G) (count : ℕ) (refusal : Option (OverwriteRefusal T)) (rest : I)
              (new : MapState T) (last : G)
              : Type 0 where
            pub wanted : ℕ
            pub at_most : IsWithinCount wanted (remaining it)
            pub roomy : MapState T
            pub reserved : (answer : Result (Unit {0}) AllocError) × ReservesItems most wanted old answer roomy
            pub items : List T
            pub counted : count ≡ length items
            pub displaced : List (ℕ × T)
            pub inserts : OverwritesUntil gives it roomy items refusal rest new displaced
            pub handed : FoldsTo give gone displaced last

          -- what a call that inserts all items of an iterator may return, and what it leaves
          abbrev pub OverwritesFrom :
              I → MapState T → G → Result ℕ (StoppedOverwrite T I) → MapState T → Type 0
          OverwritesFrom it old gone (Ok count) new =
              (rest : I) × (last : G) × OverwritesAll it old gone count None rest new last
          OverwritesFrom it old gone (Err stopped) new =
              (last : G)
              × OverwritesAll it old gone stopped.inserted (Some stopped.refusal) stopped.rest new last

-- how many items were inserted
abbrev pub overwritten_count : {I T : Type 0} → Result ℕ (StoppedOverwrite T I) → ℕ
overwritten_count (Ok count) = count
overwritten_count (Err stopped) = stopped.inserted
