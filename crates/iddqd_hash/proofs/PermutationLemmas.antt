-- Relations of lists that hold along permutations.
use Rattle.std.proofs.Common.{ℕ, zero, suc, ◌<◌, Bool, true, false, cond, List, [], ◌∷◌, length, get_or, set, arith, filter}
use Rattle.std.specs.List.{swap}
use Rattle.std.specs.List.Sorted.{IsPermutation}
use Rattle.std.proofs.lemmas.List.Sorted.{IsPermutation-refl, IsPermutation-trans, IsPermutation-cons, IsPermutation-append_left, IsPermutation-append_comm, IsPermutation-keeps}

-- A relation that is reflexive and transitive, and goes under a head and over an exchange of two heads, holds along
-- each permutation.
module _
    {X : Type 0} (R : List X → List X → Type 0) (same : (xs : List X) → R xs xs)
    (skip : (x : X) (xs ys : List X) → R xs ys → R (x ∷ xs) (x ∷ ys))
    (turn : (x y : X) (xs : List X) → R (x ∷ y ∷ xs) (y ∷ x ∷ xs))
    (chain : (xs ys zs : List X) → R xs ys → R ys zs → R xs zs)
  where
    -- the head and a later element, each in the other's place
    to_head : (x : X) (xs : List X) (k : ℕ) (d : X) → k < length xs → R (x ∷ xs) (get_or xs k d ∷ set xs k x)
    to_head x [] k d within = absurd (omega arith)
    to_head x (y ∷ ys) zero d within = turn x y ys
    to_head x (y ∷ ys) (suc k) d within =
        let behind = skip y _ _ (to_head x ys k d (omega arith)) in
        chain _ _ _ (turn x y ys) (chain _ _ _ behind (turn y (get_or ys k d) (set ys k x)))

    -- any two elements
    exchanged :
        (xs : List X) (i j : ℕ) (d : X)
        → i < length xs
        → j < length xs
        → R xs (set (set xs i (get_or xs j d)) j (get_or xs i d))
    exchanged [] i j d p q = absurd (omega arith)
    exchanged (x ∷ xs) zero zero d p q = same (x ∷ xs)
    exchanged (x ∷ xs) zero (suc j) d p q = to_head x xs j d (omega arith)
    exchanged (x ∷ xs) (suc i) zero d p q = to_head x xs i d (omega arith)
    exchanged (x ∷ xs) (suc i) (suc j) d p q = skip x _ _ (exchanged xs i j d (omega arith) (omega arith))

    swapped : (xs : List X) (i j : ℕ) → i < length xs → j < length xs → R xs (swap xs i j)
    swapped [] i j p q = absurd (omega arith)
    swapped (x ∷ xs) i j p q = exchanged (x ∷ xs) i j x p q

    pub along_permutation : (xs ys : List X) → IsPermutation xs ys → R xs ys
    along_permutation xs ys moved =
        IsPermutation-keeps xs (λ l. R xs l) (same xs) (λ l i j p q so_far. chain xs l (swap l i j) so_far (swapped l i j p q)) ys moved

pub IsPermutation-turn : {X : Type 0} (x y : X) (xs : List X) → IsPermutation (x ∷ y ∷ xs) (y ∷ x ∷ xs)
IsPermutation-turn x y xs = IsPermutation-append_left xs _ _ (IsPermutation-append_comm (x ∷ []) (y ∷ []))

-- if a list is permuted, so are its items that pass a test
pub IsPermutation-filter :
    {X : Type 0} (p : X → Bool) (xs ys : List X)
    → IsPermutation xs ys
    → IsPermutation (filter p xs) (filter p ys)
IsPermutation-filter {X} p =
    along_permutation (λ xs ys. IsPermutation (filter p xs) (filter p ys)) (λ xs. IsPermutation-refl _) skip turn (λ xs ys zs. IsPermutation-trans _ _ _)
  where
    skip :
        (x : X) (xs ys : List X)
        → IsPermutation (filter p xs) (filter p ys)
        → IsPermutation (filter p (x ∷ xs)) (filter p (x ∷ ys))
    skip x xs ys h =
        elim (p x) as (λ b. IsPermutation (cond b (x ∷ filter p xs) (filter p xs)) (cond b (x ∷ filter p ys) (filter p ys))) [ true ↦ IsPermutation-cons x _ _ h | false ↦ h ]

    turn : (x y : X) (xs : List X) → IsPermutation (filter p (x ∷ y ∷ xs)) (filter p (y ∷ x ∷ xs))
    turn x y xs =
        elim (p x) as (λ b. IsPermutation (cond b (x ∷ filter p (y ∷ xs)) (filter p (y ∷ xs))) (cond (p y) (y ∷ cond b (x ∷ filter p xs) (filter p xs)) (cond b (x ∷ filter p xs) (filter p xs)))) [
          | true ↦ elim (p y) as (λ b. IsPermutation (x ∷ cond b (y ∷ filter p xs) (filter p xs)) (cond b (y ∷ x ∷ filter p xs) (x ∷ filter p xs))) [ true ↦ IsPermutation-turn x y _ | false ↦ IsPermutation-refl _ ]
          | false ↦ IsPermutation-refl _
        ]
