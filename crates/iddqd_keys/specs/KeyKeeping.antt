-- What a closure that is given a `&mut` to a stored item has to keep, and what the store is after its call.
use Rattle.std.specs.Prelude.{◌≡◌, ℕ, Some}
use Rattle.std.specs.Borrow.{MutBor}
use Rattle.std.specs.Fn.{Once, FnOnceReturnsAtMut}
use Rattle.iddqd.specs.Store.{Store, get, rebound}

-- both keys of an item as a pair; for three or more keys it is applied to its own result
abbrev pub pair_keys : {T K1 K2 : Type 0} → (T → K1) → (T → K2) → T → K1 × K2
pair_keys first second item = (first item, second item)

module _ {F T R : Type 0} (g : Once F (MutBor T × Unit {0}) (R × (MutBor T × Unit {0}))) (f : F) where
  -- f may be called with a `&mut` to each item of which `IsThere` holds, and leaves its key unchanged. `key` may give a
  -- tuple of keys.
  abbrev pub KeepsKey : {K : Type 0} → (T → K) → (T → Type 0) → Type 0
  KeepsKey key IsThere =
      (item : MutBor T)
      → IsThere item.now
      → g.pre f (item, tt)
      × ((result : R) (left : MutBor T) → g.post f (item, tt) (result, (left, tt)) → key left.now ≡ key item.now)

  -- f was called with a `&mut` to the item at the index, and what f left stands there; no other item changed
  pub record ModifiesItem (old : Store T) (ix : ℕ) (result : R) (new : Store T) : Type 0 where
    pub was : T
    pub is : T
    pub live : get old ix ≡ Some was
    pub called : FnOnceReturnsAtMut g f was result is
    pub left : new ≡ rebound old ix is
