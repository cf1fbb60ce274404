-- What a look-up says of appointments if it misses, and of the one that it found.
use Rattle.std.proofs.Common.{◌≡◌, ◌∙◌, inl, inr, ◌↔◌, ◌==◌, ℕ, true, Some, None, sym, subst, arith}
use Rattle.std.specs.Cmp.{unsigned_tied}
use Rattle.std.specs.Ordering.{nat_cmp, eq_by_cmp}
use Rattle.std.proofs.lemmas.Bool.Decides.{nat_tests}
use Rattle.iddqd_keyed.specs.Scan.{HasNoHit, IsHit}
use Rattle.iddqd_keyed.specs.Store.{Store, get}
use Rattle.uses.specs.Calendar.{HasConflict, HasNone, IsBooked}
use Rattle.uses.specs.declared.calendar.Appointment.{Appointment}

module _ (s : Store Appointment) where
  -- where no appointment passes the test of a number, none has it
  pub no_number : (number : ℕ) → HasNoHit s (λ a. number == a.number) → HasNone s (λ a. a.number ≡ number)
  no_number number misses a booked is = misses booked.0 (a, booked.1, grind (arith, nat_tests, is))

  -- where none passes that of a start, none starts then
  pub no_start : (start : ℕ) → HasNoHit s (λ a. eq_by_cmp nat_cmp start a.start) → HasNone s (λ a. a.start ≡ start)
  no_start start misses a booked is =
      let same : (start == a.start) ≡ true = grind (arith, nat_tests, is) in
      misses booked.0 (a, booked.1, unsigned_tied start a.start ∙ same)

  -- so none is found
  pub none_numbered :
      (number : ℕ)
      → HasNoHit s (λ a. number == a.number)
      → (a : Appointment)
      → (None ≡ Some a) ↔ (IsBooked s a × (a.number ≡ number))
  none_numbered number misses a = (λ is. absurd (cc), λ booked. absurd (no_number number misses a booked.0 booked.1))

  pub none_starting :
      (start : ℕ)
      → HasNoHit s (λ a. eq_by_cmp nat_cmp start a.start)
      → (a : Appointment)
      → (None ≡ Some a) ↔ (IsBooked s a × (a.start ≡ start))
  none_starting start misses a = (λ is. absurd (cc), λ booked. absurd (no_start start misses a booked.0 booked.1))

  -- and an appointment's keys are free
  pub free :
      (a : Appointment)
      → HasNoHit s (λ other. a.number == other.number)
      → HasNoHit s (λ other. eq_by_cmp nat_cmp a.start other.start)
      → HasConflict s a
      → ⊥
  free a numbered starting taken =
      elim taken.shares [
        | inl number ↦ no_number a.number numbered taken.other taken.booked number
        | inr start ↦ no_start a.start starting taken.other taken.booked start
      ]

module _ (s : Store Appointment) (ix : ℕ) (a : Appointment) (live : get s ix ≡ Some a) where
  -- it has the number
  pub numbered : (number : ℕ) → IsHit s (λ a. number == a.number) ix → a.number ≡ number
  numbered number (item, there, passes) =
      let same : Some item ≡ Some a = sym there ∙ live in
      let one : item ≡ a = cc in
      let is : (number == a.number) ≡ true = subst (λ (x : Appointment). (number == x.number) ≡ true) one passes in
      grind (arith, nat_tests, is)

  -- or the start
  pub starts : (start : ℕ) → IsHit s (λ a. eq_by_cmp nat_cmp start a.start) ix → a.start ≡ start
  starts start (item, there, passes) =
      let same : Some item ≡ Some a = sym there ∙ live in
      let one : item ≡ a = cc in
      let is : (start == a.start) ≡ true =
      sym (unsigned_tied start a.start) ∙ subst (λ (x : Appointment). eq_by_cmp nat_cmp start x.start ≡ true) one passes in
      grind (arith, nat_tests, is)
