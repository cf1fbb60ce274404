-- Items that share one key of several, or all of them.
use Rattle.std.specs.Prelude.{◌≡◌, ◌≢◌, ◌&&◌, ◌||◌, ℕ, Bool, Option, Some, None}
use Rattle.iddqd.specs.Store.{Store}
use Rattle.iddqd_keys.specs.Scan.{IsHit, AnswersScan}

-- the items share one of two keys; each test may itself cover several keys
abbrev pub either_key : {T : Type 0} → (T → T → Bool) → (T → T → Bool) → T → T → Bool
either_key first second x y = first x y || second x y

-- the items share both keys
abbrev pub both_keys : {T : Type 0} → (T → T → Bool) → (T → T → Bool) → T → T → Bool
both_keys first second x y = first x y && second x y

module _ {T : Type 0} where
  -- no item but the one at the index passes the test
  abbrev pub HasNoOther : Store T → (T → Bool) → ℕ → Type 0
  HasNoOther s test ix = (j : ℕ) → IsHit s test j → j ≡ ix

  -- an item at another index than this one passes the test
  abbrev pub HitsOther : Store T → (T → Bool) → ℕ → Type 0
  HitsOther s test ix = (j : ℕ) × (j ≢ ix) × IsHit s test j

  -- the index of an item, other than the one at `ix`, that passes the test; `None` if no other does
  abbrev pub AnswersOther : Store T → (T → Bool) → ℕ → Option ℕ → Type 0
  AnswersOther s test ix (Some at) = (at ≢ ix) × AnswersScan s test (Some at)
  AnswersOther s test ix None = HasNoOther s test ix
