-- What an insert and a removal do to the members of a list of indexes.
use Rattle.iddqd_order.proofs.Names.{◌≡◌, ◌≢◌, ◌⊎◌, inl, inr, ◌==◌, ℕ, Bool, true, false, not, List, [], ◌∷◌, insert, ◌++◌, filter, map, refl, sym, Contains, eqb-true, eqb-false, not-true, All-contains, All-contains_itself, All-filter, filter_passes, Contains-append_cases, Contains-permutation, IsPermutation, IsPermutation-insert, IsPermutation-sym, IsPermutation-filter_both, without}
use Rattle.iddqd.proofs.StoreLemmas.{contains_head, contains_tail, contains_cases}

-- what stands in the list after an insert
module _ (xs : List ℕ) (place ix : ℕ) where
  moved : IsPermutation (ix ∷ xs) (insert xs place ix)
  moved = IsPermutation-insert xs place ix

  pub contains-inserted_at : Contains (insert xs place ix) ix
  contains-inserted_at = Contains-permutation (ix ∷ xs) (insert xs place ix) ix moved (contains_head ix xs)

  pub contains-inserted_other : (j : ℕ) → Contains xs j → Contains (insert xs place ix) j
  contains-inserted_other j here =
      Contains-permutation (ix ∷ xs) (insert xs place ix) j moved (contains_tail ix j xs here)

  pub contains-inserted_cases : (j : ℕ) → Contains (insert xs place ix) j → (j ≡ ix) ⊎ Contains xs j
  contains-inserted_cases j here =
      elim (contains_cases ix j xs (Contains-permutation (insert xs place ix) (ix ∷ xs) j (IsPermutation-sym (ix ∷ xs) (insert xs place ix) moved) here)) [
        | inl same ↦ inl (sym same)
        | inr other ↦ inr other
      ]

twice : (b : Bool) → b ≡ not (not b)
twice true = refl
twice false = refl

-- the members except one
module _ (xs : List ℕ) (ix j : ℕ) where
  pub contains-without : Contains xs j → j ≢ ix → Contains (without xs ix) j
  contains-without here other =
      let parts = IsPermutation-filter_both (λ (k : ℕ). not (k == ix)) (λ k. k == ix) (λ k. twice (k == ix)) xs in
      elim (Contains-append_cases (without xs ix) (filter (λ k. k == ix) xs) j (Contains-permutation xs (without xs ix ++ filter (λ k. k == ix) xs) j parts here)) [
        | inl kept ↦ kept
        | inr left ↦ absurd (other (eqb-true j ix (All-contains (λ k. (k == ix) ≡ true) (filter (λ k. k == ix) xs) j (filter_passes (λ k. k == ix) xs) left)))
      ]

  pub contains-from_without : Contains (without xs ix) j → Contains xs j × (j ≢ ix)
  contains-from_without here = (
    All-contains (Contains xs) (without xs ix) j
        (All-filter (λ k. not (k == ix)) (Contains xs) xs (All-contains_itself xs)) here,
    eqb-false j ix (not-true (j == ix) (All-contains (λ k. not (k == ix) ≡ true) (without xs ix) j (filter_passes (λ k. not (k == ix)) xs) here)),
  )

-- names that agree on the members of a list give it one list of names
pub map-alike : (f g : ℕ → ℕ) (xs : List ℕ) → ((x : ℕ) → Contains xs x → f x ≡ g x) → map f xs ≡ map g xs
map-alike f g [] same = refl
map-alike f g (x ∷ xs) same =
    λ i. same x (contains_head x xs) i ∷ map-alike f g xs (λ y here. same y (contains_tail x y xs here)) i
