-- Decimal digits, put down from the last on.
use Rattle.std.proofs.Common.{◌≡◌, ◌+◌, ◌/◌, ◌%◌, ◌^◌, ◌<◌, ◌≤◌, ℕ, List, [], ◌∷◌, ◌++◌, length, sym, ap, ◌∙◌, arith, append_assoc, length-append}
use Rattle.std.specs.Fmt.{decimal}
use Rattle.std.proofs.lemmas.Fmt.{decimal_digit, decimal_step, decimal_nonempty, length-decimal-le}

pub length-decimal-u32 : (n : ℕ) → n < 2 ^ 32 → length (decimal n) ≤ 10
length-decimal-u32 n small = length-decimal-le 10 n (omega arith) (omega arith) (omega arith)

-- where a digit is left to put down, there is room for it
pub digits_fit :
    (rest number : ℕ) (digits : List ℕ)
    → rest < 2 ^ 32
    → number < 2 ^ 32
    → decimal rest ++ digits ≡ decimal number
    → length digits < 10
digits_fit rest number digits fits small so_far =
    omega (arith, ap length so_far, length-append (decimal rest) digits, decimal_nonempty rest (omega arith), length-decimal-u32 number small)

pub digits_step :
    (rest : ℕ) (digits : List ℕ)
    → 10 ≤ rest
    → rest < 2 ^ 32
    → decimal (rest / 10) ++ (48 + rest % 10) ∷ digits ≡ decimal rest ++ digits
digits_step rest digits more small =
    sym (ap (λ l. l ++ digits) (decimal_step rest more (omega arith)) ∙ append_assoc (decimal (rest / 10)) ((48 + rest % 10) ∷ []) digits)

pub digits_last : (rest : ℕ) (digits : List ℕ) → rest < 10 → (48 + rest) ∷ digits ≡ decimal rest ++ digits
digits_last rest digits below = sym (ap (λ l. l ++ digits) (decimal_digit rest below))
