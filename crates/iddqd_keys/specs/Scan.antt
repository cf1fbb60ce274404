-- What a scan of a store's live items answers.
use Rattle.std.specs.Prelude.{◌≡◌, ◌↔◌, ℕ, Bool, true, Option, Some, None, IsSome}
use Rattle.iddqd.specs.Store.{Store, get}

module _ {T : Type 0} where
  -- the index has an item
  abbrev pub IsLive : Store T → ℕ → Type 0
  IsLive s ix = IsSome (get s ix)

  -- the index is live, and its item passes the test
  abbrev pub IsHit : Store T → (T → Bool) → ℕ → Type 0
  IsHit s test ix = (item : T) × (get s ix ≡ Some item) × (test item ≡ true)

  -- no live index has an item that passes
  abbrev pub HasNoHit : Store T → (T → Bool) → Type 0
  HasNoHit s test = (ix : ℕ) → IsHit s test ix → ⊥

  -- The answer of a scan: the one index that is a hit, or `None` if there is none. With two hits this holds of no
  -- result, not even of `None`.
  abbrev pub AnswersScan : Store T → (T → Bool) → Option ℕ → Type 0
  AnswersScan s test None = HasNoHit s test
  AnswersScan s test (Some ix) = (j : ℕ) → IsHit s test j ↔ (j ≡ ix)

  -- if the items at two live indexes are alike, the two indexes are the same
  abbrev pub AreApart : (T → T → Bool) → Store T → Type 0
  AreApart alike s = (i j : ℕ) (x y : T) → get s i ≡ Some x → get s j ≡ Some y → alike x y ≡ true → i ≡ j

-- an item in place of its key: items themselves are compared
abbrev pub itself : {T : Type 0} → T → T
itself item = item

module _ {T K : Type 0} (key_of : T → K) where
  -- the index is live, and this is the key of its item
  abbrev pub IsKeyAt : Store T → ℕ → K → Type 0
  IsKeyAt s ix key = (item : T) × (get s ix ≡ Some item) × (key ≡ key_of item)

  -- the item's key passes the test
  abbrev pub passes_by : (K → Bool) → T → Bool
  passes_by test item = test (key_of item)
