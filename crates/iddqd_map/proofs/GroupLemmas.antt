-- For maps: what calls leave that remove the items that pass a test, one after the other, in any order.
use Rattle.std.proofs.Common.{◌≡◌, ◌≢◌, ◌∙◌, ◌↔◌, inl, inr, ℕ, Bool, false, Option, Some, None, is_some, refl}
use Rattle.std.proofs.lemmas.Bool.{cases_eq}
use Rattle.iddqd.specs.Store.{Store, removed}
use Rattle.iddqd.proofs.LiveLemmas.{get-removed_at, get-removed_other}
use Rattle.iddqd_keys.specs.Scan.{IsHit, HasNoHit}
use Rattle.iddqd_keys.proofs.ScanLemmas.{live_before}
use Rattle.iddqd_map.specs.Groups.{FindsSome}
use Rattle.iddqd_map.specs.Ranges.{LeavesOthers}

module _ {T : Type 0} (test : T → Bool) where
  -- a look-up for some item that passes misses exactly where no item does
  pub FindsSome-misses : (s : Store T) (r : Option ℕ) → FindsSome s test r → (is_some r ≡ false) ↔ HasNoHit s test
  FindsSome-misses s None none = (λ _. none, λ _. refl)
  FindsSome-misses s (Some ix) hit = (λ is. absurd (cc), λ none. absurd (none ix hit))

  -- where no item passes nothing is removed
  pub LeavesOthers-none : (s : Store T) → HasNoHit s test → LeavesOthers s test s
  LeavesOthers-none s none = record { gone = λ j hit. absurd (none j hit); others = λ j other. refl }

  -- an item that passes was removed, and then the others
  module _ (s : Store T) (ix : ℕ) (first : IsHit s test ix) where
    before : (j : ℕ) → IsHit (removed s ix) test j → (j ≢ ix) × IsHit s test j
    before j (y, there, passed) =
        let (item, live, own) = first in
        let (apart, was) = live_before s ix j item y live there in
        (apart, (y, was, passed))

    still : (j : ℕ) → j ≢ ix → IsHit s test j → IsHit (removed s ix) test j
    still j apart (y, there, passed) = (y, get-removed_other s ix j apart ∙ there, passed)

    pub LeavesOthers-hit :
        (now new : Store T)
        → now ≡ removed s ix
        → LeavesOthers now test new
        → LeavesOthers s test new
    LeavesOthers-hit now new gone leaves =
        let left : LeavesOthers (removed s ix) test new = rw gone at leaves in
        record {
          gone = λ j hit. elim (cases_eq j ix) [
            | inl same ↦ rw same (left.others ix (λ here. (before ix here).0 refl) ∙ get-removed_at s ix first.0 first.1)
            | inr apart ↦ left.gone j (still j apart hit)
          ];
          others = λ j other.
              let apart : j ≢ ix = λ same. other (rw same first) in
              left.others j (λ hit. other (before j hit).1) ∙ get-removed_other s ix j apart;
        }
