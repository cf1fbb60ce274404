-- Words that hash tables and ordered tables of a store's indexes share. What differs between them is passed to the
-- definitions as a parameter: what a look-up may answer (`finds`), and when the table is in place (`in_place`).
use Rattle.std.specs.Prelude.{◌↔◌, ℕ, Bool, not, Option}
use Rattle.iddqd.specs.Store.{Store}
use Rattle.iddqd_keys.specs.Scan.{IsLive, IsHit, AnswersScan, AreApart}

module _ {T : Type 0} where
  -- exactly the live indexes have this property
  abbrev pub HasExactly : Store T → (ℕ → Type 0) → Type 0
  HasExactly s has = (ix : ℕ) → has ix ↔ IsLive s ix

  -- What a look-up by a test answers: `found` holds in any state; if the table is in sync, the answer is a scan's.
  pub record TableLooksUp (finds : Type 0) (is_in_sync : Type 0) (s : Store T) (test : T → Bool) (result : Option ℕ)
      : Type 0 where
    pub found : finds
    pub as_scan : is_in_sync → AnswersScan s test result

module _ {T K : Type 0} (key_of : T → K) (equal : K → K → Bool) where
  -- the keys of live items are pairwise distinct
  abbrev pub HasDistinctKeys : Store T → Type 0
  HasDistinctKeys s = AreApart (λ x y. equal (key_of x) (key_of y)) s

  -- the index is live, and this item has another key than the item there
  abbrev pub ChangesAt : Store T → ℕ → T → Type 0
  ChangesAt s ix item = IsHit s (λ was. not (equal (key_of item) (key_of was))) ix

  -- a table is in place over a store, whose keys are pairwise distinct
  pub record TableIsInSync (in_place : Type 0) (s : Store T) : Type 0 where
    pub placed : in_place
    pub apart : HasDistinctKeys s

  -- What a call preserves if it changes no key of a live index: a table in place stays so, even if two items share a
  -- key, and a table in sync stays in sync.
  pub record TableKeeps (was_in_place : Type 0) (old : Store T) (is_in_place : Type 0) (new : Store T) : Type 0 where
    pub placed : was_in_place → is_in_place
    pub in_sync : TableIsInSync was_in_place old → TableIsInSync is_in_place new
