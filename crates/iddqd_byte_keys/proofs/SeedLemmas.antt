-- A buffer whose start is filled, as far as it goes.
use Rattle.std.proofs.Common.{◌≡◌, ◌∙◌, ◌+◌, ◌*◌, ◌%◌, ◌^◌, ◌<◌, ◌≤◌, ◌++◌, bit_or, mod-eq_of_lt, inl, inr, ℕ, List, [], drop, length, min, take, sym, ap, subst, arith}
use Rattle.std.proofs.lemmas.Bool.{cases_lt}
use Rattle.std.proofs.Math.ListN.{drop_of_length-le}
use Rattle.std.proofs.lemmas.List.{take_all}
use Rattle.std.proofs.lemmas.Nat.{or_shifted}

pub filled_start :
    {X : Type 0} (items buffer : List X) (count : ℕ)
    → count ≡ min (length buffer) (length items)
    → take count items ++ drop count buffer ≡ take (length buffer) items ++ drop (length items) buffer
filled_start items buffer count is = elim (cases_lt (length buffer) (length items)) [
  | inl short ↦
      let all : count ≡ length buffer = omega (arith, is, short) in
      let none : drop count buffer ≡ [] = drop_of_length-le buffer (omega (arith, all)) in
      let no_more : drop (length items) buffer ≡ [] = drop_of_length-le buffer (omega (arith, short)) in
      λ i. take (all i) items ++ (none ∙ sym no_more) i
  | inr long ↦
      let all : count ≡ length items = omega (arith, is, long) in
      let whole : take count items ≡ take (length buffer) items =
      take_all count items (omega (arith, all)) ∙ sym (take_all (length buffer) items (omega (arith, long))) in
      λ i. whole i ++ drop (all i) buffer
]

-- two numbers of 64 bits as one of 128
pub joined_halves :
    (high low : ℕ)
    → high < 2 ^ 64
    → low < 2 ^ 64
    → bit_or (high * 2 ^ 64 % 2 ^ 128) low ≡ high * 2 ^ 64 + low
joined_halves high low fits below =
    ap (λ n. bit_or n low) (mod-eq_of_lt (omega (arith, fits))) ∙ or_shifted high 64 low below
