-- What calls return of an item that they find, and what they leave if they change it.
use Rattle.std.specs.Prelude.{◌≡◌, ℕ, Bool, true, Option, Some, None}
use Rattle.iddqd_maps.specs.Map.{MapState, IsOnly}
use Rattle.iddqd_maps.specs.Scan.{HasNoHit, IsHit}
use Rattle.iddqd_maps.specs.Store.{Store, get, rebound}

module _ {T : Type 0} where
  -- a field of the one item that passes the test; `None` if and only if no item passes
  abbrev pub FindsField : {R : Type 0} → Store T → (T → Bool) → (T → R) → Option R → Type 0
  FindsField s test field (Some value) = (ix : ℕ) × (item : T) × IsOnly s test ix item × (field item ≡ value)
  FindsField s test field None = HasNoHit s test

  -- `becomes` says what an item is after the update

  -- the item at the index was updated, and all others stay
  abbrev pub UpdatesItem : Store T → ℕ → (T → T) → Store T → Type 0
  UpdatesItem old ix becomes new = (was : T) × (get old ix ≡ Some was) × (new ≡ rebound old ix (becomes was))

  -- the one item that passes the test is at the index and was updated, and all others stay
  abbrev pub UpdatesHit : Store T → (T → Bool) → ℕ → (T → T) → Store T → Type 0
  UpdatesHit old test ix becomes new = (was : T) × IsOnly old test ix was × (new ≡ rebound old ix (becomes was))

  -- What an update of the item that passes the test may return and leave. It returns `None` if and only if no item
  -- passes, and then nothing changes.
  abbrev pub Updates : MapState T → (T → Bool) → (T → T) → Option (Unit {0}) → MapState T → Type 0
  Updates old test becomes (Some done) new =
      (ix : ℕ) × (was : T) × IsOnly old.store test ix was × (new.store ≡ rebound old.store ix (becomes was))
      × (new.memory ≡ old.memory)
  Updates old test becomes None new = HasNoHit old.store test × (new ≡ old)

  -- the same of the item at an index
  abbrev pub UpdatesAt : MapState T → ℕ → (T → T) → Option (Unit {0}) → MapState T → Type 0
  UpdatesAt old ix becomes (Some done) new = UpdatesItem old.store ix becomes new.store × (new.memory ≡ old.memory)
  UpdatesAt old ix becomes None new = (get old.store ix ≡ None) × (new ≡ old)

  -- each item that passes the test was updated, and all others stay
  pub record UpdatesAll (old : Store T) (test : T → Bool) (becomes : T → T) (new : Store T) : Type 0 where
    pub updated : (ix : ℕ) (item : T) → get old ix ≡ Some item → test item ≡ true → get new ix ≡ Some (becomes item)
    pub others : (ix : ℕ) → (IsHit old test ix → ⊥) → get new ix ≡ get old ix
