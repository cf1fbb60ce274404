-- A buffer that a loop fills with the answers for keys, one after another.
use Rattle.std.proofs.Common.{◌≡◌, ◌≢◌, ◌⊎◌, ◌∙◌, ◌+◌, ◌<◌, ◌≤◌, inl, inr, ℕ, List, [], ◌∷◌, ◌++◌, length, get_or, slice_set, suc, refl, sym, ap, subst, arith}
use Rattle.std.specs.Prelude.{take, drop}
use Rattle.std.proofs.lemmas.Slice.Zip.{get_or-zip, length-zip}
use Rattle.std.proofs.Math.Seq.{set-append_seam}
use Rattle.std.proofs.lemmas.List.{append_assoc, drop_more, length_push, take_all, take_more}
use Rattle.iddqd_codes.specs.declared.TheConstants.{OK, MISSING}
use Rattle.iddqd_c.specs.Entries.{ReportsRow, spans}
use Rattle.iddqd_c.specs.Rows.{AreAlike, no_row}
use Rattle.iddqd_c.specs.declared.entry.Row.{Row}

-- what a look-up of one key writes, if it was to write over the row for none
pub reported :
    (finds : ℕ → Row → Type 0) (code : ℕ) (row was : Row) → finds code row → (code ≡ OK) ⊎ (code ≡ MISSING)
    → (code ≢ OK → row ≡ was) → was ≡ no_row → ReportsRow finds row
reported finds code row was found (inl ok) kept none = inl (subst (λ c. finds c row) ok found)
reported finds code row was found (inr missing) kept none =
    inr (subst (λ c. finds c row) missing found, kept (λ ok. absurd (omega (arith, ok, missing))) ∙ none)

pub length-spans : (ends : List ℕ) → length (spans ends) ≡ length ends
length-spans ends = omega (arith, length-zip (0 ∷ ends) ends)

pub next_start : (ends : List ℕ) (at : ℕ) → get_or ends at 0 ≡ get_or (0 ∷ ends) (at + 1) 0
next_start ends at =
    let next : suc at ≡ at + 1 = omega arith in
    ap (λ n. get_or (0 ∷ ends) n 0) next

pub span_at :
    (ends : List ℕ) (at start : ℕ) → start ≡ get_or (0 ∷ ends) at 0 → at < length ends
    → (start, get_or ends at 0) ≡ get_or (spans ends) at (0, 0)
span_at ends at start is within =
    let pair : ℕ → ℕ × ℕ = λ s. (s, get_or ends at 0) in
    ap pair is ∙ sym (get_or-zip (0 ∷ ends) ends at (0, 0) (omega (arith, within)) within)

module _ {X Y : Type 0} (P : X → Y → Type 0) where
  AreAlike-push :
      (xs : List X) (ys : List Y) (x : X) (y : Y) → AreAlike P xs ys → P x y
      → AreAlike P (xs ++ x ∷ []) (ys ++ y ∷ [])
  AreAlike-push [] [] x y alike holds = (holds, tt)
  AreAlike-push [] (y' ∷ ys) x y alike holds = absurd alike
  AreAlike-push (x' ∷ xs) [] x y alike holds = absurd alike
  AreAlike-push (x' ∷ xs) (y' ∷ ys) x y alike holds = (alike.0, AreAlike-push xs ys x y alike.1 holds)

  -- The first `at` places have answers for the first keys, and the places behind them are as they were.
  pub record IsAnswered (keys : List X) (at : ℕ) (was now : List Y) : Type 0 where
    pub answers : List Y
    pub each : AreAlike P (take at keys) answers
    pub counted : length answers ≡ at
    pub filled : now ≡ answers ++ drop at was

  pub IsAnswered-start : (keys : List X) (was : List Y) → IsAnswered keys 0 was was
  IsAnswered-start keys was = record { answers = []; each = tt; counted = refl; filled = refl }

  pub IsAnswered-step :
      (keys : List X) (at : ℕ) (was now : List Y) (x : X) (y : Y)
      → IsAnswered keys at was now
      → at < length keys
      → at < length was
      → P (get_or keys at x) y
      → IsAnswered keys (at + 1) was (slice_set now at y)
  IsAnswered-step keys at was now x y before within room holds =
      let done = before.answers in
      let behind = drop (at + 1) was in
      let place : Y = get_or was at y in
      let opened : now ≡ done ++ place ∷ behind = before.filled ∙ ap (λ ys. done ++ ys) (drop_more was at y room) in
      let there : slice_set now at y ≡ done ++ y ∷ behind =
      ap (λ ys. slice_set ys at y) opened
      ∙ subst (λ n. slice_set (done ++ place ∷ behind) n y ≡ done ++ y ∷ behind) before.counted (set-append_seam done place behind y) in
      record {
        answers = done ++ y ∷ [];
        each = subst (λ (xs : List X). AreAlike P xs (done ++ y ∷ [])) (sym (take_more keys at x within))
            (AreAlike-push (take at keys) done (get_or keys at x) y before.each holds);
        counted = length_push done y ∙ ap (λ n. n + 1) before.counted;
        filled = there ∙ sym (append_assoc done (y ∷ []) behind);
      }

  pub answered_all :
      (keys : List X) (at : ℕ) (was now : List Y) (is : IsAnswered keys at was now) → length keys ≤ at
      → AreAlike P keys is.answers
  answered_all keys at was now is all =
      subst (λ (xs : List X). AreAlike P xs is.answers) (take_all at keys all) is.each
