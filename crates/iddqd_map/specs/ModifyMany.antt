-- How calls that modify many items of a map call their closure, and what they leave.
use Rattle.std.specs.Prelude.{◌≡◌, ℕ, Bool, true, List, [], ◌∷◌, Option, Some, map, length}
use Rattle.std.specs.Borrow.{MutBor}
use Rattle.std.specs.Fn.{Mut, Takes, CalledAtMut}
use Rattle.std.specs.List.{FoldsTo}
use Rattle.std.specs.declared.cmp.Ordering.{Ordering}
use Rattle.iddqd.specs.Store.{Store, get, rebound}
use Rattle.iddqd.specs.LiveItems.{live_pairs}
use Rattle.iddqd_keys.specs.KeyWalk.{SortsWithin, pairs_at}
use Rattle.iddqd_map.specs.Groups.{AreHits}
use Rattle.iddqd_map.specs.Ranges.{itself}

module _ {T : Type 0} where
  -- each of these items was put under its index in turn
  abbrev pub rebound_all : Store T → List (ℕ × T) → Store T
  rebound_all s [] = s
  rebound_all s (pair ∷ pairs) = rebound_all (rebound s pair.0 pair.1) pairs

  -- `calls` are calls of the closure: an index with its item, and what the call left there. The indexes with what was
  -- left.
  abbrev pub left_by : List ((ℕ × T) × T) → List (ℕ × T)
  left_by calls = map (λ call. (call.0.0, call.1)) calls

  -- it is the item at an index
  abbrev pub IsStored : Store T → T → Type 0
  IsStored s item = (ix : ℕ) × (get s ix ≡ Some item)

  -- it is the item at an index, and passes the test
  abbrev pub IsStoredHit : Store T → (T → Bool) → T → Type 0
  IsStoredHit s test item = (ix : ℕ) × (get s ix ≡ Some item) × (test item ≡ true)

module _ {F T : Type 0} (g : Mut F (MutBor T × Unit {0}) (Unit {0} × (MutBor T × Unit {0}))) where
  -- f may be called with a `&mut` to x
  abbrev pub TakesMut : F → T → Type 0
  TakesMut f x = (item : MutBor T) → item.now ≡ x → Takes g f (item, tt)

  -- such a call may leave f', whatever it leaves of x. (The Bool stands for the answer of closures that give one.)
  abbrev pub MayLeave : F → T → Bool → F → Type 0
  MayLeave f x b f' = (left : T) × CalledAtMut g f x tt f' left

  -- a call with an item of which `IsThere` holds leaves that item its keys, in whichever state of the closure
  abbrev pub KeepsKeys : {K : Type 0} → (T → K) → (T → Type 0) → Type 0
  KeepsKeys keys IsThere =
      (f : F) (x : T) (f' : F) (left : T) → IsThere x → CalledAtMut g f x tt f' left → keys left ≡ keys x

  -- a call with this item left what is there now
  pub record WasCalled (was : T) (now : Option T) : Type 0 where
    pub before : F
    pub after : F
    pub left : T
    pub called : CalledAtMut g before was tt after left
    pub there : now ≡ Some left

  -- f was called with each of these items in turn, each time in the state that the call before left, and is then in the
  -- last state. What each call left stands under the index; all else is as it was.
  pub record CallsAlong (pairs : List (ℕ × T)) (f : F) (old new : Store T) (last : F) : Type 0 where
    pub calls : List ((ℕ × T) × T)
    pub each_once : map (λ call. call.0) calls ≡ pairs
    pub were_called : FoldsTo (λ p call q. CalledAtMut g p call.0.1 tt q call.1) f calls last
    pub left : new ≡ rebound_all old (left_by calls)

  -- f was called with each item once, by rising index
  pub record ModifiesEach (f : F) (old new : Store T) (last : F) : Type 0 where
    pub calls : CallsAlong (live_pairs old) f old new last
    pub each : (ix : ℕ) (was : T) → get old ix ≡ Some was → WasCalled was (get new ix)

  -- f was called with each item that passes once, in any order: `count` times
  pub record ModifiesHits (test : T → Bool) (f : F) (old new : Store T) (last : F) (count : ℕ) : Type 0 where
    pub indexes : List ℕ
    pub hits : AreHits old test indexes
    pub counted : count ≡ length indexes
    pub calls : CallsAlong (pairs_at old indexes) f old new last
    pub each : (ix : ℕ) (was : T) → get old ix ≡ Some was → test was ≡ true → WasCalled was (get new ix)

  -- f was called with each item within once, in order and then by index: `count` times
  module _ (order : T → T → Ordering) (within : T → Bool) where
    pub record ModifiesWithin (f : F) (old new : Store T) (last : F) (count : ℕ) : Type 0 where
      pub indexes : List ℕ
      pub sorted : SortsWithin itself order within old indexes
      pub counted : count ≡ length indexes
      pub calls : CallsAlong (pairs_at old indexes) f old new last
      pub each : (ix : ℕ) (was : T) → get old ix ≡ Some was → within was ≡ true → WasCalled was (get new ix)
