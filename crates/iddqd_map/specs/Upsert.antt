-- What calls that modify or find the item with a key, or insert one, may leave.
use Rattle.std.specs.Prelude.{◌≡◌, ℕ, Bool, Result, Some}
use Rattle.std.specs.Borrow.{MutBor}
use Rattle.std.specs.Fn.{Once}
use Rattle.iddqd.specs.Store.{Store, get, rebound}
use Rattle.iddqd_map.specs.Calls.{Inserts}
use Rattle.iddqd_map.specs.Map.{MapState}
use Rattle.iddqd_map.specs.declared.refusal.InsertRefusal.{InsertRefusal}

module _ {F T : Type 0} (g : Once F (MutBor T × (T × Unit {0})) (Unit {0} × (MutBor T × Unit {0}))) (f : F) (item : T)
  where
    -- f may be called with a `&mut` to each stored item of which `IsThere` holds, and with this item
    abbrev pub IsCallableWith : (T → Type 0) → Type 0
    IsCallableWith IsThere = (was : MutBor T) → IsThere was.now → g.pre f (was, (item, tt))

    -- such a call leaves the stored item its key; `key` may give a tuple of keys
    abbrev pub LeavesKey : {K : Type 0} → (T → K) → (T → Type 0) → Type 0
    LeavesKey key IsThere =
        (was : MutBor T)
        → IsThere was.now
        → (left : MutBor T)
        → g.post f (was, (item, tt)) (tt, (left, tt))
        → key left.now ≡ key was.now

    -- such a call may leave x' of x
    pub record MayLeaveWith (x x' : T) : Type 0 where
      pub shown : MutBor T
      pub shows : shown.now ≡ x
      pub left : MutBor T
      pub met : g.post f (shown, (item, tt)) (tt, (left, tt))
      pub leaves : left.now ≡ x'

    -- f was called with a `&mut` to the item at the index and with this item, and what f left stands there; no other
    -- item changed, nor did the memory
    pub record MergesAt (old : MapState T) (ix : ℕ) (new : MapState T) : Type 0 where
      pub was : T
      pub is : T
      pub live : get old.store ix ≡ Some was
      pub called : MayLeaveWith was is
      pub left : new.store ≡ rebound old.store ix is
      pub memory : new.memory ≡ old.memory

-- the closure made an item, and an insert of that item may return and leave this
abbrev pub InsertsMade :
    {F T C : Type 0} → (T → T → Bool) → (ℕ → ℕ) → (Store T → T → C → Type 0) → Once F (Unit {0}) T → F → MapState T
    → Result ℕ (InsertRefusal T C) → MapState T → Type 0
InsertsMade {F} {T} alike grown conflicts g f old result new =
    (item : T) × g.post f tt item × Inserts alike grown conflicts old item result new
