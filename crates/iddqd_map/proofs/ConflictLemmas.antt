-- For callers: an item that a pair of key indexes reports shares a key with the refused one.
use Rattle.std.proofs.Common.{◌≡◌, ◌||◌, inl, inr, ℕ, Bool, true, false, Option, Some, None, refl}
use Rattle.iddqd.specs.Store.{Store}
use Rattle.iddqd_keys.specs.Scan.{IsHit, HasNoHit}
use Rattle.iddqd_map.specs.PairConflict.{ReportBoth, ReportBothOther}
use Rattle.iddqd_map.specs.Several.{HitsOther, either_key}

or_true : (a : Bool) → (a || true) ≡ true
or_true true = refl
or_true false = refl

module _ {T : Type 0} (alike1 alike2 : T → T → Bool) (s : Store T) (item : T) (j : ℕ) where
  pub first_hits : IsHit s (alike1 item) j → IsHit s (either_key alike1 alike2 item) j
  first_hits (other, live, passes) = (other, live, rw passes refl)

  pub second_hits : IsHit s (alike2 item) j → IsHit s (either_key alike1 alike2 item) j
  second_hits (other, live, passes) = (other, live, rw passes (or_true (alike1 item other)))

module _ {T C D : Type 0} (alike1 alike2 : T → T → Bool) (s : Store T) (item : T) where
  -- an insert is refused for an item
  pub reported_hit :
      (conflicts1 : Store T → T → C → Type 0) (conflicts2 : Store T → T → D → Type 0)
      → ((at : C) → conflicts1 s item at → (ix : ℕ) × IsHit s (alike1 item) ix)
      → ((at : D) → conflicts2 s item at → (ix : ℕ) × IsHit s (alike2 item) ix)
      → (one : Option C) (other : Option D)
      → ReportBoth alike1 alike2 conflicts1 conflicts2 s item one other
      → (ix : ℕ) × IsHit s (either_key alike1 alike2 item) ix
  reported_hit conflicts1 conflicts2 hit1 hit2 (Some at) other reports =
      let (ix, hit) = hit1 at reports.first in
      (ix, first_hits alike1 alike2 s item ix hit)
  reported_hit conflicts1 conflicts2 hit1 hit2 None (Some at) reports =
      let (ix, hit) = hit2 at reports.second in
      (ix, second_hits alike1 alike2 s item ix hit)
  reported_hit conflicts1 conflicts2 hit1 hit2 None None reports =
      elim reports.some [ inl none ↦ absurd (cc) | inr none ↦ absurd (cc) ]

  -- a replacement of the item at an index is refused for another one
  pub reported_other :
      (ix : ℕ) (taken1 : Store T → ℕ → T → C → Type 0) (taken2 : Store T → ℕ → T → D → Type 0)
      → ((at : C) → taken1 s ix item at → HitsOther s (alike1 item) ix)
      → ((at : D) → taken2 s ix item at → HitsOther s (alike2 item) ix)
      → (one : Option C) (other : Option D)
      → ReportBothOther alike1 alike2 taken1 taken2 s ix item one other
      → HitsOther s (either_key alike1 alike2 item) ix
  reported_other ix taken1 taken2 hit1 hit2 (Some at) other reports =
      let (j, apart, hit) = hit1 at reports.first in
      (j, apart, first_hits alike1 alike2 s item j hit)
  reported_other ix taken1 taken2 hit1 hit2 None (Some at) reports =
      let (j, apart, hit) = hit2 at reports.second in
      (j, apart, second_hits alike1 alike2 s item j hit)
  reported_other ix taken1 taken2 hit1 hit2 None None reports =
      elim reports.some [ inl none ↦ absurd (cc) | inr none ↦ absurd (cc) ]

-- Where only the first key can conflict, an item is alike to another one exactly if that key is equal.
module _ {T : Type 0} (s : Store T) (first : T → Bool) where
  first_passes : (a : Bool) → (a || (false || false)) ≡ true → a ≡ true
  first_passes true is = is
  first_passes false is = is

  pub first_alone : (ix : ℕ) → IsHit s (λ item. first item || (false || false)) ix → IsHit s first ix
  first_alone ix (item, live, passes) = (item, live, first_passes (first item) passes)

  pub not_first : HasNoHit s (λ item. first item || (false || false)) → HasNoHit s first
  not_first none ix (item, live, passes) = none ix (item, live, rw passes refl)
