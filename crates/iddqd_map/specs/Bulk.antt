-- How the calls that give items away, or insert many, call their closures and their iterator, and what they leave.
use Rattle.std.specs.Prelude.{◌≡◌, ◌++◌, ℕ, Bool, true, false, not, List, [], ◌∷◌, length, map, filter, Option, Some, None, Result, Ok, Err}
use Rattle.std.specs.Fn.{Mut}
use Rattle.std.specs.Iterator.{Count, MakesProgress, YieldsThen}
use Rattle.std.specs.Iterator.SizeHint.{IsWithinCount}
use Rattle.std.specs.List.{FoldsTo}
use Rattle.std.specs.declared.alloc.AllocError.{AllocError}
use Rattle.iddqd.specs.LiveItems.{live_pairs}
use Rattle.iddqd.specs.Store.{Store, empty, inserted, slot_limit}
use Rattle.iddqd_keys.specs.Removals.{removed_all}
use Rattle.iddqd_map.specs.Calls.{Inserts, InsertsAt}
use Rattle.iddqd_map.specs.Map.{MapState, empty_map}
use Rattle.iddqd_map.specs.Memory.{ReservesItems}
use Rattle.iddqd_map.specs.Ranges.{TakesItem, GivesItem}
use Rattle.iddqd_map.specs.Retain.{MayAskInTurn, removed_of}
use Rattle.iddqd_map.specs.declared.refusal.InsertRefusal.{InsertRefusal}
use Rattle.iddqd_map.specs.declared.refusal.Stopped.{Stopped}

-- f may be called with each of the items in turn, once with each
abbrev pub MayGiveInTurn : {F T : Type 0} → Mut F (T × Unit {0}) (Unit {0}) → F → List T → Type 0
MayGiveInTurn g f items = MayAskInTurn (TakesItem g) (λ p x (b : Bool) q. GivesItem g p x q) f items

-- f may be called with some of these items in turn, whichever they are
abbrev pub GivesSome : {F T : Type 0} → Mut F (T × Unit {0}) (Unit {0}) → F → List T → Type 0
GivesSome g f [] = Unit {0}
GivesSome {F} g f (x ∷ items) =
    TakesItem g f x × ((f' : F) → GivesItem g f x f' → GivesSome g f' items) × GivesSome g f items

-- equivalent to `GivesSome`, and in the form of `MayAsk` for the same reason
abbrev pub MayGiveSome : {F T : Type 0} → Mut F (T × Unit {0}) (Unit {0}) → F → List T → Type 0
MayGiveSome g f items = (((p : _) (x : _) → TakesItem g p x) → GivesSome g f items) → GivesSome g f items

-- of calls of a closure, each an index with its item and the answer: the items for which it answered false
abbrev pub refused_of : {T : Type 0} → List ((ℕ × T) × Bool) → List T
refused_of asks = map (λ a. a.0.1) (filter (λ a. not a.1) asks)

-- `ask p x b q` says that the first closure in the state p may answer b at x, and is then in the state q, and
-- `give p x q` that a call of the second with x in the state p may leave the state q
module _ {F G T : Type 0} (ask : F → T → Bool → F → Type 0) (give : G → T → G → Type 0) where
  -- The first closure was called on each of these items in turn. Those at which it answered false were removed, and the
  -- second was called with each of them, in the same turn.
  pub record RetainsInto
      (pairs : List (ℕ × T)) (keep : F) (gone : G) (old new : Store T) (last_keep : F) (last_gone : G)
      : Type 0 where
    pub asks : List ((ℕ × T) × Bool)
    pub each_once : map (λ a. a.0) asks ≡ pairs
    pub were_asked : FoldsTo (λ p a q. ask p a.0.1 a.1 q) keep asks last_keep
    pub given : FoldsTo give gone (refused_of asks) last_gone
    pub left : new ≡ removed_all old (removed_of asks)

  -- the same of all items, by rising index, for a call that returns neither closure
  abbrev pub GivesRefused : F → G → Store T → Store T → Type 0
  GivesRefused keep gone old new =
      (last_keep : F) × (last_gone : G) × RetainsInto (live_pairs old) keep gone old new last_keep last_gone

-- What becomes of the second closure where the first answers b at x: if that is true it stays, otherwise it is called
-- with x.
abbrev pub GivesIfRefused : {G T : Type 0} → Mut G (T × Unit {0}) (Unit {0}) → G → T → Bool → G → Type 0
GivesIfRefused g p x true q = q ≡ p
GivesIfRefused g p x false q = GivesItem g p x q

module _ {F G T : Type 0} (g : Mut G (T × Unit {0}) (Unit {0})) where
  -- both closures may be called at x
  abbrev pub TakesBoth : (F → T → Type 0) → F × G → T → Type 0
  TakesBoth takes p x = takes p.0 x × TakesItem g p.1 x

  -- both closures at x: the first answers b, and the second is called with x if that is false
  abbrev pub AsksAndGives : (F → T → Bool → F → Type 0) → F × G → T → Bool → F × G → Type 0
  AsksAndGives ask p x b q = ask p.0 x b q.0 × GivesIfRefused g p.1 x b q.1

-- the store after these items were inserted, one after the other
abbrev pub inserted_all : {T : Type 0} → Store T → List T → Store T
inserted_all s [] = s
inserted_all s (item ∷ rest) = inserted_all (inserted s item) rest

-- Why no map is made of these items: this is what an insert answers at the first of them that a map doesn't take with
-- those before it. `alike`, `grown` and `conflicts` are as below.
pub record RefusesOneOf
    {T C : Type 0} (alike : T → T → Bool) (grown : ℕ → ℕ) (conflicts : Store T → T → C → Type 0)
    (items : List T) (refusal : InsertRefusal T C)
    : Type 0 where
  pub before : List T
  pub item : T
  pub after : List T
  pub listed : items ≡ before ++ item ∷ after
  pub map : MapState T
  pub holds : map.store ≡ inserted_all empty before
  pub left : MapState T
  pub refused : Inserts alike grown conflicts map item (Err refusal) left

-- A map was made of these items: memory was reserved for all of them at once, in an empty map. If it ran out, the
-- inserts went on with what there was. Each item was inserted before the next. `alike` and `grown` are as below, and
-- `most n` is the most cells that are taken for n indexes.
pub record MakesOf
    {T : Type 0} (alike : T → T → Bool) (grown most : ℕ → ℕ) (items : List T) (new : MapState T)
    : Type 0 where
  pub roomy : MapState T
  pub reserved : (answer : Result (Unit {0}) AllocError)
      × ReservesItems most (length items) (empty_map slot_limit) answer roomy
  pub in_turn : FoldsTo (λ m item n. (ix : ℕ) × InsertsAt alike grown m item ix n) roomy items new

-- Of an iterator: `gives` says what a call of `next` gives. Of a map: `alike x y` says that the items share a unique
-- key, and `grown n` is the most by which the cells grow in an insert that leaves n indexes.
module _ {I T : Type 0} (gives : I → Option T → I → Type 0) (alike : T → T → Bool) (grown : ℕ → ℕ) where
  -- The iterator gave these items, and each was inserted before the next came. After them it gave `next`: an item, or
  -- `None` at its end. `rest` is the iterator then, and `new` the map.
  pub record InsertsItems (it : I) (old : MapState T) (items : List T) (next : Option T) (rest : I) (new : MapState T)
      : Type 0 where
    pub given : YieldsThen gives it items next rest
    pub in_turn : FoldsTo (λ m item n. (ix : ℕ) × InsertsAt alike grown m item ix n) old items new
    pub stored : new.store ≡ inserted_all old.store items

  -- `conflicts s item at` says that `at` reports the items that share a unique key with this one
  module _ {C : Type 0} (conflicts : Store T → T → C → Type 0) where
    -- If there is no refusal, these are all items of the iterator, and each was inserted. Otherwise the refusal is what
    -- an insert answers at the next item, and the iterator has what comes after that item.
    abbrev pub InsertsUntil : I → MapState T → List T → Option (InsertRefusal T C) → I → MapState T → Type 0
    InsertsUntil it old items None rest new = InsertsItems it old items None rest new
    InsertsUntil it old items (Some refusal) rest new =
        (item : T) × (before : MapState T) × InsertsItems it old items (Some item) rest before
        × Inserts alike grown conflicts before item (Err refusal) new

    -- What an insert of the next item may answer, and what it leaves: `None` if and only if the iterator is at its end.
    -- `can` says that `next` may be called, and `remaining` how many items an iterator gives at most.
    abbrev pub InsertsNext :
        (I → Type 0) → (I → Count) → I → MapState T → Option (Result ℕ (InsertRefusal T C)) → I → MapState T → Type 0
    InsertsNext can remaining it old None rest new = gives it None rest × (new ≡ old)
    InsertsNext can remaining it old (Some answer) rest new =
        (item : T) × gives it (Some item) rest × MakesProgress can remaining it (Some item) rest
        × Inserts alike grown conflicts old item answer new

    -- `remaining` is as above, and `most n` is the most cells that are taken for n indexes
    module _ (remaining : I → Count) (most : ℕ → ℕ) where
      -- Memory was reserved for no more items than the iterator can give. If it ran out, the inserts went on with what
      -- there was. They went on until all items were inserted, or the first was refused.
      pub record InsertsAll
          (it : I) (old : MapState T) (count : ℕ) (refusal : Option (InsertRefusal T C)) (rest : I) (new : MapState T)
          : Type 0 where
        pub wanted : ℕ
        pub at_most : IsWithinCount wanted (remaining it)
        pub roomy : MapState T
        pub reserved : (answer : Result (Unit {0}) AllocError) × ReservesItems most wanted old answer roomy
        pub items : List T
        pub counted : count ≡ length items
        pub inserts : InsertsUntil it roomy items refusal rest new

      -- what a call that inserts all items of an iterator may return, and what it leaves
      abbrev pub InsertsFrom : I → MapState T → Result ℕ (Stopped T C I) → MapState T → Type 0
      InsertsFrom it old (Ok count) new = (rest : I) × InsertsAll it old count None rest new
      InsertsFrom it old (Err stopped) new =
          InsertsAll it old stopped.inserted (Some stopped.refusal) stopped.rest new

-- how many items were inserted
abbrev pub inserted_count : {I T C : Type 0} → Result ℕ (Stopped T C I) → ℕ
inserted_count (Ok count) = count
inserted_count (Err stopped) = stopped.inserted
