-- For callers whose keys are unsigned numbers: what tests of them say.
use Rattle.std.proofs.Common.{◌≡◌, ◌∙◌, ◌↔◌, ◌<◌, ◌≤◌, inl, inr, ℕ, nat_eq, nat_le, true, false, not, sym, ap, arith}
use Rattle.std.specs.Cmp.{nat_cmp_is, unsigned_tied}
use Rattle.std.specs.Ordering.{nat_cmp, is_eq, is_gt, is_lt}
use Rattle.std.specs.declared.cmp.Ordering.TheVariants.{Less, Equal, Greater}
use Rattle.std.proofs.lemmas.Bool.{cases_lt}
use Rattle.std.proofs.lemmas.Bool.Decides.{nat_tests}

-- of numbers: the same, less, no greater, and the same as they compare
pub is_same : (a b : ℕ) → (nat_eq a b ≡ true) ↔ (b ≡ a)
is_same a b = (λ is. grind (arith, nat_tests, is), λ same. grind (arith, nat_tests, same))

pub is_tied : (a b : ℕ) → (is_eq (nat_cmp a b) ≡ true) ↔ (b ≡ a)
is_tied a b = (λ is. (is_same a b).0 (sym (unsigned_tied a b) ∙ is), λ same. unsigned_tied a b ∙ (is_same a b).1 same)

pub is_earlier : (a b : ℕ) → (is_gt (nat_cmp a b) ≡ true) ↔ (b < a)
is_earlier a b = (
  λ is. elim (cases_lt b a) [
    | inl less ↦ less
    | inr most ↦ elim (cases_lt a b) [
      | inl more ↦ absurd (let other : is_gt Less ≡ true = ap is_gt (nat_cmp_is a b Less more) ∙ is in cc)
      | inr least ↦ absurd (let other : is_gt Equal ≡ true = ap is_gt (nat_cmp_is a b Equal (omega (arith, most, least))) ∙ is in cc)
    ]
  ],
  λ less. ap is_gt (sym (nat_cmp_is a b Greater less)),
)

pub is_no_later : (a b : ℕ) → (not (is_lt (nat_cmp a b)) ≡ true) ↔ (b ≤ a)
is_no_later a b = (
  λ is. elim (cases_lt a b) [
    | inl less ↦ absurd (let other : not (is_lt Less) ≡ true = ap (λ o. not (is_lt o)) (nat_cmp_is a b Less less) ∙ is in cc)
    | inr most ↦ most
  ],
  λ most. elim (cases_lt b a) [
    | inl less ↦ ap (λ o. not (is_lt o)) (sym (nat_cmp_is a b Greater less))
    | inr least ↦ ap (λ o. not (is_lt o)) (sym (nat_cmp_is a b Equal (omega (arith, most, least))))
  ],
)

pub is_less : (a b : ℕ) → (nat_le a b ≡ false) ↔ (b < a)
is_less a b = (λ is. grind (arith, nat_tests, is), λ less. grind (arith, nat_tests, less))
