-- The number of binary digits.
use Rattle.iddqd_order.proofs.Names.{◌≡◌, ℕ, zero, suc, ◌+◌, ◌/◌, ◌<◌, ◌≤◌, refl, ap, sym, ◌∙◌, arith, digits, digits_within, row_asks}

pub digits_within-zero : (k : ℕ) → digits_within k 0 ≡ 0
digits_within-zero zero = refl
digits_within-zero (suc k) = refl

pub digits_within-enough : (k m n : ℕ) → n ≤ k → n ≤ m → digits_within k n ≡ digits_within m n
digits_within-enough k m zero h h' = digits_within-zero k ∙ sym (digits_within-zero m)
digits_within-enough zero m (suc n) h h' = absurd (omega arith)
digits_within-enough (suc k) zero (suc n) h h' = absurd (omega arith)
digits_within-enough (suc k) (suc m) (suc n) h h' =
    ap (λ x. 1 + x) (digits_within-enough k m (suc n / 2) (omega arith) (omega arith))

pub digits_within-mono : (k a b : ℕ) → a ≤ b → digits_within k a ≤ digits_within k b
digits_within-mono zero a b h = omega arith
digits_within-mono (suc k) zero b h = omega (arith, digits_within-zero (suc k))
digits_within-mono (suc k) (suc a) zero h = absurd (omega arith)
digits_within-mono (suc k) (suc a) (suc b) h =
    let less = digits_within-mono k (suc a / 2) (suc b / 2) (omega arith) in
    let goal : 1 + digits_within k (suc a / 2) ≤ 1 + digits_within k (suc b / 2) = omega arith in
    goal

pub digits-half : (n : ℕ) → 0 < n → digits n ≡ 1 + digits (n / 2)
unfolding digits
digits-half zero h = absurd (omega arith)
digits-half (suc n) h = ap (λ x. 1 + x) (digits_within-enough n (suc n / 2) (suc n / 2) (omega arith) (omega arith))

pub digits-mono : (a b : ℕ) → a ≤ b → digits a ≤ digits b
unfolding digits
digits-mono a b h =
    let e : digits_within a a ≡ digits_within b a = digits_within-enough a b a (omega arith) h in
    let l : digits_within b a ≤ digits_within b b = digits_within-mono b a b h in
    omega arith

digits-fifteen : digits 15 ≤ row_asks
unfolding digits
digits-fifteen = omega arith

-- four asks tell fifteen places apart
pub four_digits : (n : ℕ) → n ≤ 15 → digits n ≤ row_asks
four_digits n le = let four : digits 15 ≤ row_asks = digits-fifteen in omega (arith, digits-mono n 15 le)
