-- Where the first of some byte stands, and what a cut there gives.
use Rattle.std.proofs.Common.{◌≡◌, ◌==◌, ◌⊎◌, ◌+◌, ◌-◌, ◌<◌, ◌≤◌, ℕ, suc, List, ◌∷◌, ◌++◌, length, take, drop, get_or, Some, None, sym, ap, ◌∙◌, inl, inr, arith, length-drop, take_all}
use Rattle.std.specs.List.{position, position_or_len}
use Rattle.std.proofs.Math.Seq.{drop-cons}
use Rattle.std.proofs.lemmas.Bool.{cases_lt, eqb-true}
use Rattle.std.proofs.lemmas.Bool.Decides.{nat_tests}
use Rattle.std.proofs.lemmas.List.{take-append-drop, get_or-take, length-take-le}
use Rattle.std.proofs.lemmas.List.Quantifiers.{position-Some}
use Rattle.std.proofs.lemmas.List.Sums.{fails_before_first}
use Rattle.iddqd_lines.specs.Split.{HasNo, IsSplitAt}

-- a cut at the first place
pub cut_at_first :
    (byte : ℕ) (bytes : List ℕ) (at : ℕ)
    → position (λ b. b == byte) bytes ≡ Some at
    → IsSplitAt byte bytes (take at bytes) (take (length bytes - (at + 1)) (drop (at + 1) bytes))
cut_at_first byte bytes at found =
    let p = position-Some (λ b. b == byte) bytes at in
    let within : at < length bytes = (p 0 found).0 in
    let next : at + 1 ≡ suc at = omega arith in
    let rest : take (length bytes - (at + 1)) (drop (at + 1) bytes) ≡ drop (suc at) bytes =
    take_all (length bytes - (at + 1)) (drop (at + 1) bytes) (omega (arith, length-drop (at + 1) bytes)) ∙ ap (λ n. drop n bytes) next in
    let here : get_or bytes at 0 ≡ byte = eqb-true (get_or bytes at 0) byte (p 0 found).1 in
    let parted : drop at bytes ≡ byte ∷ drop (suc at) bytes = drop-cons bytes at 0 within ∙ ap (λ b. b ∷ drop (suc at) bytes) here in
    record {
      whole = rw rest (sym (take-append-drop at bytes) ∙ ap (λ l. take at bytes ++ l) parted);
      first = λ k d inside.
          let before : k < at = omega (arith, length-take-le at bytes (omega arith)) in
          rw (get_or-take at bytes k d before) ((p d found).2 k before);
    }

-- where there is no first place, the byte isn't there
pub none_first : (byte : ℕ) (bytes : List ℕ) → position (λ b. b == byte) bytes ≡ None → HasNo byte bytes
none_first byte bytes none = λ k d inside. fails_before_first (λ b. b == byte) bytes k d (omega (arith, at_end (cases_lt (position_or_len (λ b. b == byte) bytes) (length bytes))))
  where
    at_end :
        ((position_or_len (λ b. b == byte) bytes < length bytes) ⊎
        (length bytes ≤ position_or_len (λ b. b == byte) bytes))
        → length bytes ≤ position_or_len (λ b. b == byte) bytes
    at_end (inl before) = absurd (grind (arith, nat_tests, none, before))
    at_end (inr past) = past
