-- For callers of the walks: each live index comes once with its item, by rising index, and there are as many as are
-- live.
use Rattle.std.proofs.Common.{◌≡◌, ℕ, zero, suc, ◌+◌, ◌<◌, ◌≤◌, List, [], ◌∷◌, ◌++◌, map, length, get_or, Option, Some, None, is_some, count_by, cond, slice_get, refl, ap, ◌∙◌, inl, inr, arith, add-zero, zero-add}
use Rattle.std.specs.List.{Contains}
use Rattle.std.proofs.lemmas.List.Sums.{sum_by-cons}
use Rattle.iddqd.proofs.StoreLemmas.{contains_cases, contains_tail}
use Rattle.iddqd.specs.Store.{Store, get}
use Rattle.iddqd.specs.LiveItems.{pairs_from, live_pairs, items_in, IsWalkOf}

module _ {T : Type 0} where
  -- there are as many pairs as items
  pub length-pairs_from :
      (first : ℕ) (slots : List (Option T))
      → length (pairs_from first slots) ≡ count_by is_some slots
  length-pairs_from first [] = refl
  length-pairs_from first (None ∷ rest) = omega (arith, length-pairs_from (first + 1) rest, sum_by-cons (λ o. cond (is_some o) 1 0) None rest)
  length-pairs_from first (Some item ∷ rest) = omega (arith, length-pairs_from (first + 1) rest, sum_by-cons (λ o. cond (is_some o) 1 0) (Some item) rest)

  pub length-items_in : (slots : List (Option T)) → length (items_in slots) ≡ count_by is_some slots
  length-items_in [] = refl
  length-items_in (None ∷ rest) = omega (arith, length-items_in rest, sum_by-cons (λ o. cond (is_some o) 1 0) None rest)
  length-items_in (Some item ∷ rest) = omega (arith, length-items_in rest, sum_by-cons (λ o. cond (is_some o) 1 0) (Some item) rest)

  -- the items are those of the pairs, in their order
  pub items_of_pairs :
      (first : ℕ) (slots : List (Option T))
      → map (λ pair. pair.1) (pairs_from first slots) ≡ items_in slots
  items_of_pairs first [] = refl
  items_of_pairs first (None ∷ rest) = items_of_pairs (first + 1) rest
  items_of_pairs first (Some item ∷ rest) = ap (λ l. item ∷ l) (items_of_pairs (first + 1) rest)

  -- the walk over slots, and then over more
  pub pairs_from-append :
      (first : ℕ) (front back : List (Option T))
      → pairs_from first (front ++ back) ≡ pairs_from first front ++ pairs_from (first + length front) back
  pairs_from-append first [] back = rw add-zero
  pairs_from-append first (None ∷ rest) back =
      let shift : first + 1 + length rest ≡ first + suc (length rest) = omega arith in
      rw (pairs_from-append (first + 1) rest back, shift)
  pairs_from-append first (Some item ∷ rest) back =
      let shift : first + 1 + length rest ≡ first + suc (length rest) = omega arith in
      rw (pairs_from-append (first + 1) rest back, shift)

  pub items_in-append : (front back : List (Option T)) → items_in (front ++ back) ≡ items_in front ++ items_in back
  items_in-append [] back = refl
  items_in-append (None ∷ rest) back = items_in-append rest back
  items_in-append (Some item ∷ rest) back = ap (λ l. item ∷ l) (items_in-append rest back)

  pair_of_slot :
      (first : ℕ) (slots : List (Option T)) (at : ℕ) (item : T)
      → get_or slots at None ≡ Some item
      → Contains (pairs_from first slots) (first + at, item)
  pair_of_slot first [] at item found = absurd (cc)
  pair_of_slot first (slot ∷ rest) zero item found = rw (found, add-zero) (0, omega arith, refl)
  pair_of_slot first (None ∷ rest) (suc at) item found =
      let shift : first + suc at ≡ first + 1 + at = omega arith in
      rw shift (pair_of_slot (first + 1) rest at item found)
  pair_of_slot first (Some other ∷ rest) (suc at) item found =
      let shift : first + suc at ≡ first + 1 + at = omega arith in
      rw shift (contains_tail _ _ _ (pair_of_slot (first + 1) rest at item found))

  slot_of_pair :
      (first : ℕ) (slots : List (Option T)) (ix : ℕ) (item : T)
      → Contains (pairs_from first slots) (ix, item)
      → (at : ℕ) × (ix ≡ first + at) × (get_or slots at None ≡ Some item)
  slot_of_pair first [] ix item listed = absurd (omega (arith, listed.1))
  slot_of_pair first (None ∷ rest) ix item listed =
      let later = slot_of_pair (first + 1) rest ix item listed in
      (suc later.0, omega (arith, later.1), later.2)
  slot_of_pair first (Some other ∷ rest) ix item listed =
      elim (contains_cases _ _ _ listed) [
        | inl here ↦ (0, omega (arith, ap (λ p. p.0) here), ap (λ p. Some p.1) here)
        | inr there ↦
            let later = slot_of_pair (first + 1) rest ix item there in
            (suc later.0, omega (arith, later.1), later.2)
      ]

  not_before :
      (first : ℕ) (slots : List (Option T)) (i : ℕ) (a : ℕ × T)
      → slice_get (pairs_from first slots) i ≡ Some a
      → first ≤ a.0
  not_before first [] i a found = absurd (cc)
  not_before first (None ∷ rest) i a found = omega (arith, not_before (first + 1) rest i a found)
  not_before first (Some item ∷ rest) zero a found =
      let same : (first, item) ≡ a = cc in
      omega (arith, ap (λ p. p.0) same)
  not_before first (Some item ∷ rest) (suc i) a found = omega (arith, not_before (first + 1) rest i a found)

  pairs_rise :
      (first : ℕ) (slots : List (Option T)) (i j : ℕ) (a b : ℕ × T)
      → i < j
      → slice_get (pairs_from first slots) i ≡ Some a
      → slice_get (pairs_from first slots) j ≡ Some b
      → a.0 < b.0
  pairs_rise first [] i j a b less at_i at_j = absurd (cc)
  pairs_rise first (None ∷ rest) i j a b less at_i at_j = pairs_rise (first + 1) rest i j a b less at_i at_j
  pairs_rise first (Some item ∷ rest) i zero a b less at_i at_j = absurd (omega arith)
  pairs_rise first (Some item ∷ rest) zero (suc j) a b less at_i at_j =
      let same : (first, item) ≡ a = cc in
      omega (arith, ap (λ p. p.0) same, not_before (first + 1) rest j b at_j)
  pairs_rise first (Some item ∷ rest) (suc i) (suc j) a b less at_i at_j =
      pairs_rise (first + 1) rest i j a b (omega arith) at_i at_j

  pub IsWalkOf-live_pairs : (s : Store T) → IsWalkOf s (live_pairs s)
  IsWalkOf-live_pairs s = record {
    live = λ ix item. (
      λ listed. let found = slot_of_pair 0 s.items ix item listed in ap (get s) (found.1 ∙ zero-add found.0) ∙ found.2,
      λ found. rw zero-add at (pair_of_slot 0 s.items ix item found),
    );
    rising = pairs_rise 0 s.items;
  }
