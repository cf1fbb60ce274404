-- What a removal or a replacement leaves of woven lists.
use Rattle.iddqd_order.proofs.Names.{◌≡◌, ℕ, zero, suc, ◌+◌, ◌-◌, ◌<◌, List, [], ◌∷◌, ◌++◌, length, drop, set, get_or, remove, refl, ap, sym, ◌∙◌, append_assoc, arith, length-append, set-get_or, set-append_left, set-append_right, remove-append_left, remove-append_right, weave, before, after}
use Rattle.std.proofs.lemmas.List.{set_at}
use Rattle.iddqd_order.proofs.WeaveLemmas.{apart, weave-edit, index_place}

-- an index is removed from the i-th list
pub weave-taken :
    (i : ℕ) (xs : List ℕ) (ks : List (List ℕ)) (d k : List ℕ) (q : ℕ)
    → i < length ks
    → length ks ≡ length xs + 1
    → q < length (get_or ks i d)
    → k ≡ remove (get_or ks i d) q
    → weave xs (set ks i k) ≡ remove (weave xs ks) (length (before i xs ks) + q)
weave-taken i xs ks d k q p e w is =
    weave-edit remove i xs ks d k q p e is remove-append_right (λ a. remove-append_left (get_or ks i d) a q w)

-- or replaced there
pub weave-set_below :
    (i : ℕ) (xs : List ℕ) (ks : List (List ℕ)) (k : List ℕ) (q x : ℕ)
    → i < length ks
    → length ks ≡ length xs + 1
    → q < length (get_or ks i [])
    → k ≡ set (get_or ks i []) q x
    → weave xs (set ks i k) ≡ set (weave xs ks) (length (before i xs ks) + q) x
weave-set_below i xs ks k q x p e w is =
    weave-edit (λ z j. set z j x) i xs ks [] k q p e is (λ b ys n j. set-append_right b ys n j x)
    (λ a. set-append_left (get_or ks i []) a q x w)

-- a woven list, taken apart at its i-th index, which m replaces; k replaces the list before it
weave-set_at :
    (i : ℕ) (xs : List ℕ) (ks : List (List ℕ)) (k : List ℕ) (m : ℕ)
    → i < length xs
    → length ks ≡ length xs + 1
    → weave (set xs i m) (set ks i k) ≡ (before i xs ks ++ k) ++ m ∷ weave (drop (suc i) xs) (drop (suc i) ks)
weave-set_at i [] ks k m p e = absurd (omega arith)
weave-set_at i (x ∷ xs) [] k m p e = absurd (omega arith)
weave-set_at zero (x ∷ xs) (l ∷ ks) k m p e = refl
weave-set_at (suc i) (x ∷ xs) (l ∷ ks) k m p e =
    let t : List ℕ = m ∷ weave (drop (suc i) xs) (drop (suc i) ks) in
    ap (λ z. l ++ x ∷ z) (weave-set_at i xs ks k m (omega arith) (omega arith))
    ∙ sym (append_assoc l (x ∷ before i xs ks ++ k) t) ∙ ap (λ z. z ++ t) (sym (append_assoc l (x ∷ before i xs ks) k))

apart-index : (i : ℕ) (xs : List ℕ) (ks : List (List ℕ)) (d : List ℕ) → i < length xs → length ks ≡ length xs + 1
    → weave xs ks ≡ (before i xs ks ++ get_or ks i d) ++ get_or xs i 0 ∷ weave (drop (suc i) xs) (drop (suc i) ks)
apart-index i xs ks d p e =
    sym (λ j. weave (set-get_or xs i 0 j) (set-get_or ks i d j))
    ∙ weave-set_at i xs ks (get_or ks i d) (get_or xs i 0) p e

-- the last index of the list before it replaces the i-th index
pub weave-replaced :
    (i : ℕ) (xs : List ℕ) (ks : List (List ℕ)) (d k : List ℕ) (m : ℕ)
    → i < length xs
    → length ks ≡ length xs + 1
    → get_or ks i d ≡ k ++ m ∷ []
    → weave (set xs i m) (set ks i k) ≡ remove (weave xs ks) (length (before i xs ks) + length (get_or ks i d))
weave-replaced i xs ks d k m p e is =
    let b : List ℕ = before i xs ks in
    let g : List ℕ = get_or ks i d in
    let t : List ℕ = weave (drop (suc i) xs) (drop (suc i) ks) in
    let n : ℕ = length b + length g in
    let none : n - n ≡ 0 = omega arith in
    weave-set_at i xs ks k m p e ∙ append_assoc b k (m ∷ t)
    ∙ ap (λ z. b ++ z) (sym (append_assoc k (m ∷ []) t) ∙ ap (λ z. z ++ t) (sym is)) ∙ sym (append_assoc b g t)
    ∙ ap (λ z. (b ++ g) ++ remove (get_or xs i 0 ∷ t) z) (sym none)
    ∙ sym (remove-append_right (b ++ g) (get_or xs i 0 ∷ t) n n (length-append b g) (omega arith))
    ∙ ap (λ z. remove z n) (sym (apart-index i xs ks d p e))

-- any x replaces the i-th index
pub weave-set_own :
    (i : ℕ) (xs : List ℕ) (ks : List (List ℕ)) (x : ℕ)
    → i < length xs
    → length ks ≡ length xs + 1
    → weave (set xs i x) ks ≡ set (weave xs ks) (index_place i xs ks) x
weave-set_own i xs ks x p e =
    let b : List ℕ = before i xs ks ++ get_or ks i [] in
    ap (weave (set xs i x)) (sym (set-get_or ks i [])) ∙ weave-set_at i xs ks (get_or ks i []) x p e
    ∙ sym (set_at b (get_or xs i 0) (weave (drop (suc i) xs) (drop (suc i) ks)) x (index_place i xs ks) (length-append (before i xs ks) (get_or ks i []))) ∙ ap (λ z. set z (index_place i xs ks) x) (sym (apart-index i xs ks [] p e))

-- the last of the last list
pub weave-last :
    (xs : List ℕ) (ks : List (List ℕ)) (d k : List ℕ) (m : ℕ)
    → length ks ≡ length xs + 1
    → get_or ks (length xs) d ≡ k ++ m ∷ []
    → weave xs ks ≡ weave xs (set ks (length xs) k) ++ m ∷ []
weave-last xs [] d k m e is = absurd (omega arith)
weave-last [] (k0 ∷ ks) d k m e is = is
weave-last (x ∷ xs) (k0 ∷ ks) d k m e is =
    ap (λ z. k0 ++ x ∷ z) (weave-last xs ks d k m (omega arith) is)
    ∙ sym (append_assoc k0 (x ∷ weave xs (set ks (length xs) k)) (m ∷ []))

-- an index of the i-th list stands among all, and so does the index after that list
pub weave-within :
    (i : ℕ) (xs : List ℕ) (ks : List (List ℕ)) (d : List ℕ) (q : ℕ)
    → i < length ks
    → length ks ≡ length xs + 1
    → q < length (get_or ks i d)
    → length (before i xs ks) + q < length (weave xs ks)
weave-within i xs ks d q p e w =
    rw (apart i xs ks d p e) (omega (arith, length-append (before i xs ks) (get_or ks i d ++ after i xs ks), length-append (get_or ks i d) (after i xs ks)))

pub weave-within_at :
    (i : ℕ) (xs : List ℕ) (ks : List (List ℕ)) (d : List ℕ)
    → i < length xs
    → length ks ≡ length xs + 1
    → length (before i xs ks) + length (get_or ks i d) < length (weave xs ks)
weave-within_at i xs ks d p e =
    rw (apart-index i xs ks d p e) (omega (arith, length-append (before i xs ks ++ get_or ks i d) (get_or xs i 0 ∷ weave (drop (suc i) xs) (drop (suc i) ks)), length-append (before i xs ks) (get_or ks i d)))
