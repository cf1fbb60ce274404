-- A buffer that is filled from its start, as far as it goes.
use Rattle.std.proofs.Common.{◌≡◌, ◌∙◌, ◌+◌, ◌<◌, ◌≤◌, inl, inr, ℕ, List, [], ◌∷◌, ◌++◌, length, get_or, slice_set, Bool, refl, sym, ap, subst, arith}
use Rattle.std.specs.Prelude.{◌==◌, filter, take, drop}
use Rattle.std.proofs.Math.Seq.{set-append_seam}
use Rattle.std.proofs.lemmas.Bool.{cases_lt}
use Rattle.std.proofs.Math.ListN.{drop_of_length-le}
use Rattle.std.proofs.lemmas.List.Sums.{count_by-le-length, length-filter}
use Rattle.std.proofs.lemmas.List.{append-nil, append_assoc, drop_more, length-append, length-map, length_push, take-append-le, take_all}
use Rattle.iddqd_hash.specs.HashTable.{under}

-- The first `at` of these items were put to the places of a buffer, as far as it goes, and `rest` are the others.
pub record IsCopied {X : Type 0} (all rest : List X) (at : ℕ) (was now : List X) : Type 0 where
  pub done : List X
  pub joined : all ≡ done ++ rest
  pub counted : length done ≡ at
  pub copied : now ≡ take (length was) done ++ drop at was

module _ {X : Type 0} where
  pub IsCopied-start : (all was : List X) → IsCopied all all 0 was was
  IsCopied-start all was = record { done = []; joined = refl; counted = refl; copied = sym (ap (λ xs. xs ++ was) (take_all (length was) [] (omega arith))) }

  -- the items after one more was put to its place, if there is one
  copied_more :
      (done : List X) (x : X) (at : ℕ) (was now next : List X)
      → length done ≡ at
      → now ≡ take (length was) done ++ drop at was
      → length now ≡ length was
      → (at < length now → next ≡ slice_set now at x)
      → (length now ≤ at → next ≡ now)
      → next ≡ take (length was) (done ++ x ∷ []) ++ drop (at + 1) was
  copied_more done x at was now next counted copied long inside outside = elim (cases_lt at (length was)) [
    | inl within ↦
        let behind = drop (at + 1) was in
        let place : X = get_or was at x in
        let short : length done ≤ length was = omega (arith, counted, within) in
        let full : length (done ++ x ∷ []) ≤ length was = omega (arith, counted, within, length_push done x) in
        let opened : now ≡ done ++ place ∷ behind =
        copied ∙ (λ i. take_all (length was) done short i ++ drop_more was at x within i) in
        let there : slice_set now at x ≡ done ++ x ∷ behind =
        ap (λ ys. slice_set ys at x) opened
        ∙ subst (λ n. slice_set (done ++ place ∷ behind) n x ≡ done ++ x ∷ behind) counted (set-append_seam done place behind x) in
        inside (subst (λ n. at < n) (sym long) within) ∙ there ∙ sym (append_assoc done (x ∷ []) behind)
        ∙ sym (ap (λ ys. ys ++ behind) (take_all (length was) (done ++ x ∷ []) full))
    | inr past ↦
        let full : length was ≤ length done = omega (arith, counted, past) in
        let none : drop at was ≡ [] = drop_of_length-le was past in
        let still : drop (at + 1) was ≡ [] = drop_of_length-le was (omega (arith, past)) in
        outside (subst (λ n. n ≤ at) (sym long) past) ∙ copied
        ∙ (λ i. sym (take-append-le (length was) done (x ∷ []) full) i ++ (none ∙ sym still) i)
  ]

  pub IsCopied-step :
      (all rest : List X) (x : X) (at : ℕ) (was now next : List X)
      → IsCopied all (x ∷ rest) at was now
      → length now ≡ length was
      → (at < length now → next ≡ slice_set now at x)
      → (length now ≤ at → next ≡ now)
      → IsCopied all rest (at + 1) was next
  IsCopied-step all rest x at was now next before long inside outside = record {
    done = before.done ++ x ∷ [];
    joined = before.joined ∙ sym (append_assoc before.done (x ∷ []) rest);
    counted = length_push before.done x ∙ ap (λ n. n + 1) before.counted;
    copied = copied_more before.done x at was now next before.counted before.copied long inside outside;
  }

  -- once as many were put there as there are items, none is left
  pub nothing_left :
      (all rest : List X) (at : ℕ) (was now : List X)
      → IsCopied all rest at was now
      → length all ≤ at
      → rest ≡ []
  nothing_left all rest at was now is few =
      let long : length all ≡ length is.done + length rest = ap length is.joined ∙ length-append is.done rest in
      empty rest (omega (arith, long, is.counted, few))
    where
      empty : (xs : List X) → length xs ≡ 0 → xs ≡ []
      empty [] long = refl
      empty (x ∷ xs) long = absurd (omega (arith, long))

  -- when no item is left
  pub IsCopied-end :
      (all : List X) (at : ℕ) (was now : List X)
      → IsCopied all [] at was now
      → (at ≡ length all) × (now ≡ take (length was) all ++ drop (length all) was)
  IsCopied-end all at was now is =
      let whole : all ≡ is.done = is.joined ∙ append-nil is.done in
      let count : at ≡ length all = sym is.counted ∙ ap length (sym whole) in
      (count, is.copied ∙ (λ i. take (length was) (sym whole i) ++ drop (count i) was))

-- under a hash there are no more numbers than there are pairs
pub under_few : (hash : ℕ) (es : List (ℕ × ℕ)) → length (under hash es) ≤ length es
under_few hash es =
    let has : ℕ × ℕ → Bool = λ e. e.0 == hash in
    omega (arith, length-map (filter has es) (λ e. e.1), length-filter has es, count_by-le-length has es)
