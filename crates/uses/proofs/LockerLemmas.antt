-- Which keys a refused locker shares with others, as a caller says it.
use Rattle.std.proofs.Common.{inl, inr, ℕ, Option, Some, None, refl}
use Rattle.iddqd_maps.specs.Map.{MapState}
use Rattle.iddqd_maps.specs.OneKey.{IsReported}
use Rattle.iddqd_maps.specs.PairConflict.{ReportBoth}
use Rattle.uses.specs.Lockers.{same_holder, same_number, taken_keys, IsWhyNotHandedOut}
use Rattle.uses.specs.declared.lockers.Locker.{Locker}

module _ (old : MapState Locker) (locker : Locker) where
  pub why_taken :
      (one other : Option ℕ)
      → ReportBoth same_number same_holder (IsReported same_number) (IsReported same_holder) old.store locker one other
      → IsWhyNotHandedOut locker.number locker.holder old (taken_keys one other)
  why_taken (Some i) (Some j) reports = ((i, (reports.first i).1 refl), (j, (reports.second j).1 refl))
  why_taken (Some i) None reports = ((i, (reports.first i).1 refl), reports.second)
  why_taken None (Some j) reports = (reports.first, (j, (reports.second j).1 refl))
  why_taken None None reports = elim reports.some [ inl none ↦ absurd (cc) | inr none ↦ absurd (cc) ]
