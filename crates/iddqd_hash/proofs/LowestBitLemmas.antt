-- A number and its lowest bit that is set.
use Rattle.std.proofs.Common.{◌≡◌, ◌∙◌, ℕ, zero, suc, ◌+◌, ◌-◌, ◌*◌, ◌/◌, ◌%◌, ◌^◌, ◌<◌, min, refl, sym, ap, arith, pow-suc, zero-add, suc-add}
use lib.Bits.{bit_and, and_step, and_self}
use lib.Count.{count_trailing_zeros, under}
use Rattle.std.proofs.lemmas.Nat.{shr-shr}

-- the count of a number that was shifted up
pub trailing-shifted : (s k n : ℕ) → count_trailing_zeros (s + k) (2 ^ s * n) ≡ s + count_trailing_zeros k n
unfolding count_trailing_zeros
trailing-shifted zero k n =
    ap (λ w. count_trailing_zeros w (2 ^ 0 * n)) (zero-add k)
    ∙ ap (count_trailing_zeros k) (let one : 2 ^ 0 * n ≡ n = omega arith in one)
    ∙ sym (zero-add (count_trailing_zeros k n))
trailing-shifted (suc s) k n =
    let power : 2 ^ suc s ≡ 2 ^ s * 2 = pow-suc 2 s in
    let double : 2 ^ suc s * n ≡ 2 * (2 ^ s * n) =
    ap (λ p. p * n) power ∙ (let turned : 2 ^ s * 2 * n ≡ 2 * (2 ^ s * n) = grind arith in turned) in
    let even : 2 ^ suc s * n % 2 ≡ 0 = omega (arith, double) in
    let half : 2 ^ suc s * n / 2 ≡ 2 ^ s * n = omega (arith, double) in
    ap (λ w. count_trailing_zeros w (2 ^ suc s * n)) (suc-add s k)
    ∙ ap (λ d. under d (count_trailing_zeros (s + k) (2 ^ suc s * n / 2))) even
    ∙ ap (λ m. suc (count_trailing_zeros (s + k) m)) half
    ∙ ap suc (trailing-shifted s k n)
    ∙ sym (suc-add s (count_trailing_zeros k n))

cleared-even :
    (t n : ℕ)
    → 0 < n
    → n % 2 ≡ 0
    → bit_and (n / 2) (n / 2 - 1) ≡ 2 ^ (t + 1) * (n / 2 / 2 ^ (t + 1))
    → bit_and n (n - 1) ≡ 2 ^ (suc t + 1) * (n / 2 ^ (suc t + 1))
cleared-even t n some even rest =
    let before : (n - 1) / 2 ≡ n / 2 - 1 = omega arith in
    let same : suc (t + 1) ≡ suc t + 1 = omega arith in
    let power : 2 ^ suc (t + 1) ≡ 2 ^ (t + 1) * 2 = pow-suc 2 (t + 1) in
    let split : n / 2 ^ 1 / 2 ^ (t + 1) ≡ n / 2 ^ (1 + (t + 1)) = shr-shr n 1 (t + 1) in
    let quotient : n / 2 / 2 ^ (t + 1) ≡ n / 2 ^ suc (t + 1) =
    split ∙ ap (λ x. n / 2 ^ x) (let up : 1 + (t + 1) ≡ suc (t + 1) = omega arith in up) in
    and_step n (n - 1)
    ∙ ap (λ x. bit_and (n / 2) x * 2 + min (n % 2) ((n - 1) % 2)) before
    ∙ ap (λ x. x * 2 + min (n % 2) ((n - 1) % 2)) rest
    ∙ (let last : min (n % 2) ((n - 1) % 2) ≡ 0 = omega arith in ap (λ x. 2 ^ (t + 1) * (n / 2 / 2 ^ (t + 1)) * 2 + x) last)
    ∙ (let turned : 2 ^ (t + 1) * (n / 2 / 2 ^ (t + 1)) * 2 + 0 ≡ 2 ^ (t + 1) * 2 * (n / 2 / 2 ^ (t + 1)) = grind arith in turned)
    ∙ ap (λ p. p * (n / 2 / 2 ^ (t + 1))) (sym power)
    ∙ ap (λ x. 2 ^ suc (t + 1) * x) quotient
    ∙ ap (λ x. 2 ^ x * (n / 2 ^ x)) same

cleared-odd : (n : ℕ) → n % 2 ≡ 1 → bit_and n (n - 1) ≡ 2 ^ (0 + 1) * (n / 2 ^ (0 + 1))
cleared-odd n odd =
    let before : (n - 1) / 2 ≡ n / 2 = omega arith in
    and_step n (n - 1)
    ∙ ap (λ x. bit_and (n / 2) x * 2 + min (n % 2) ((n - 1) % 2)) before
    ∙ ap (λ x. x * 2 + min (n % 2) ((n - 1) % 2)) (and_self (n / 2))
    ∙ (let last : min (n % 2) ((n - 1) % 2) ≡ 0 = omega arith in ap (λ x. n / 2 * 2 + x) last)
    ∙ (let twice : n / 2 * 2 + 0 ≡ 2 ^ (0 + 1) * (n / 2 ^ (0 + 1)) = omega arith in twice)

half_lower : (k n : ℕ) → n < 2 ^ suc k → n / 2 < 2 ^ k
half_lower k n lt = let power : 2 ^ suc k ≡ 2 ^ k * 2 = pow-suc 2 k in omega arith

-- Clearing the lowest bit keeps those above it.
pub lowest_cleared :
    (k n : ℕ)
    → 0 < n
    → n < 2 ^ k
    → bit_and n (n - 1) ≡ 2 ^ (count_trailing_zeros k n + 1) * (n / 2 ^ (count_trailing_zeros k n + 1))
unfolding count_trailing_zeros
lowest_cleared zero n some lt = absurd (omega arith)
lowest_cleared (suc k) n some lt = by_digit (n % 2) refl (λ more. lowest_cleared k (n / 2) more (half_lower k n lt))
  where
    by_digit :
        (d : ℕ)
        → n % 2 ≡ d
        → (0 < n / 2 → bit_and (n / 2) (n / 2 - 1) ≡ 2 ^ (count_trailing_zeros k (n / 2) + 1) *
        (n / 2 / 2 ^ (count_trailing_zeros k (n / 2) + 1)))
        → bit_and n (n - 1) ≡ 2 ^ (under (n % 2) (count_trailing_zeros k (n / 2)) + 1) *
        (n / 2 ^ (under (n % 2) (count_trailing_zeros k (n / 2)) + 1))
    by_digit zero even rest =
        cleared-even (count_trailing_zeros k (n / 2)) n some even (rest (omega arith))
        ∙ ap (λ d. 2 ^ (under d (count_trailing_zeros k (n / 2)) + 1) * (n / 2 ^ (under d (count_trailing_zeros k (n / 2)) + 1))) (sym even)
    by_digit (suc d) odd rest =
        let one : n % 2 ≡ 1 = omega arith in
        cleared-odd n one
        ∙ ap (λ d. 2 ^ (under d (count_trailing_zeros k (n / 2)) + 1) * (n / 2 ^ (under d (count_trailing_zeros k (n / 2)) + 1))) (sym one)
