-- For callers: what calls that remove all items which pass a test leave, or some of them, in the words of a caller.
use Rattle.std.proofs.Common.{◌≡◌, ◌↔◌, ℕ, Bool, true, false, Some, None, refl}
use Rattle.iddqd.specs.Store.{Store, get}
use Rattle.iddqd_keys.specs.Scan.{passes_by}
use Rattle.iddqd_map.specs.Drops.{Drops}
use Rattle.iddqd_map.specs.RangeRetain.{KeepsMisses}
use Rattle.iddqd_map.specs.Ranges.{LeavesOthers}
use Rattle.iddqd_map.proofs.CallerLemmas.{other_stays, vacant_stays}

module _ {T : Type 0} (old new : Store T) where
  -- all items that pass the test were removed
  pub Drops-left :
      (test : T → Bool) (IsDropped : T → Type 0)
      → ((item : T) → (test item ≡ true) ↔ IsDropped item)
      → LeavesOthers old test new
      → Drops IsDropped old new
  Drops-left test IsDropped says leaves = record {
    gone = λ ix item live dropped. leaves.gone ix (item, live, (says item).1 dropped);
    others_stay = λ ix item live stays.
        elim (test item) as (λ b. test item ≡ b → get new ix ≡ Some item) [
          | true ↦ λ passes. absurd (stays ((says item).0 passes))
          | false ↦ λ fails. other_stays old new test leaves.others ix item live fails
        ] refl;
    no_new = vacant_stays old new test leaves.others;
  }

  -- of the items whose keys are within bounds those were removed that a closure refused, by a test
  module _ {K : Type 0} (key_of : T → K) (within : K → Bool) (test : T → Bool) (IsWithin IsRefused : T → Type 0)
      (says_within : (item : T) → (within (key_of item) ≡ true) ↔ IsWithin item)
      (says_refused : (item : T) → (test item ≡ false) ↔ IsRefused item)
      (stays : (ix : ℕ) (item : T) → get old ix ≡ Some item → test item ≡ true → get new ix ≡ Some item)
      (gone :
      (ix : ℕ) (item : T) → get old ix ≡ Some item → within (key_of item) ≡ true → test item ≡ false
      → get new ix ≡ None)
      (others : KeepsMisses old (passes_by key_of within) new)
    where
      pub Drops-retained : Drops (λ item. IsWithin item × IsRefused item) old new
      Drops-retained = record {
        gone = λ ix item live both. gone ix item live ((says_within item).1 both.0) ((says_refused item).1 both.1);
        others_stay = λ ix item live not_both.
            elim (test item) as (λ b. test item ≡ b → get new ix ≡ Some item) [
              | true ↦ λ kept. stays ix item live kept
              | false ↦ λ refused.
                  elim (within (key_of item)) as (λ b. within (key_of item) ≡ b → get new ix ≡ Some item) [
                    | true ↦ λ inside. absurd (not_both ((says_within item).0 inside, (says_refused item).0 refused))
                    | false ↦ λ outside. other_stays old new (passes_by key_of within) others ix item live outside
                  ] refl
            ] refl;
        no_new = vacant_stays old new (passes_by key_of within) others;
      }
