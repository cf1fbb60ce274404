-- What a call that modifies an item of a map may return, and what it leaves.
use Rattle.std.specs.Prelude.{◌≡◌, ℕ, Bool, true, Option, Some, None}
use Rattle.std.specs.Borrow.{MutBor}
use Rattle.std.specs.Fn.{Once}
use Rattle.iddqd.specs.Store.{get}
use Rattle.iddqd_keys.specs.Scan.{HasNoHit}
use Rattle.iddqd_keys.specs.KeyKeeping.{ModifiesItem}
use Rattle.iddqd_map.specs.Map.{MapState, IsOnly}

module _ {F T R : Type 0} (g : Once F (MutBor T × Unit {0}) (R × (MutBor T × Unit {0}))) (f : F) where
  -- What a modification at an index may return and leave. It returns `None` if and only if no item is there, and then
  -- nothing changes.
  abbrev pub ModifiesAt : MapState T → ℕ → Option R → MapState T → Type 0
  ModifiesAt old ix (Some result) new = ModifiesItem g f old.store ix result new.store × (new.memory ≡ old.memory)
  ModifiesAt old ix None new = (get old.store ix ≡ None) × (new ≡ old)

  -- the one item that passes the test was modified
  pub record ModifiesHit (old : MapState T) (test : T → Bool) (result : R) (new : MapState T) : Type 0 where
    pub ix : ℕ
    pub modified : ModifiesItem g f old.store ix result new.store
    pub hit : IsOnly old.store test ix modified.was
    pub passes : test modified.was ≡ true
    pub memory : new.memory ≡ old.memory

  -- What a modification of the item that passes the test may return and leave. It returns `None` if and only if no item
  -- passes, and then nothing changes.
  abbrev pub Modifies : MapState T → (T → Bool) → Option R → MapState T → Type 0
  Modifies old test (Some result) new = ModifiesHit old test result new
  Modifies old test None new = HasNoHit old.store test × (new ≡ old)
