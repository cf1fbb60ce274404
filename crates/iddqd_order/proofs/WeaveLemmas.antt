-- Facts on lists that are woven together.
use Rattle.iddqd_order.proofs.Names.{subst, All, All-take, All-drop, take-append_seam, drop-append_seam, ◌≡◌, ℕ, zero, suc, ◌+◌, ◌-◌, ◌<◌, ◌≤◌, List, [], ◌∷◌, ◌++◌, length, set, set-get_or, get_or, refl, ap, sym, ◌∙◌, append_assoc, arith, length-append, add-one, append-nil, insert, insert-append_left, insert-append_right, weave, before, after}

-- the members of the parts of a list
pub All-front : {X : Type 0} → (P : X → Type 0) (xs ys : List X) → All P (xs ++ ys) → All P xs
All-front P xs ys a = subst (All P) (take-append_seam xs ys) (All-take P (length xs) (xs ++ ys) a)

pub All-back : {X : Type 0} → (P : X → Type 0) (xs ys : List X) → All P (xs ++ ys) → All P ys
All-back P xs ys a = subst (All P) (drop-append_seam xs ys) (All-drop P (length xs) (xs ++ ys) a)

-- what further indexes and lists add at the end
abbrev pub rest : List ℕ → List (List ℕ) → List ℕ
rest [] ks = []
rest (x ∷ xs) ks = x ∷ weave xs ks

pub weave-more :
    (ys xs : List ℕ) (ls ks : List (List ℕ))
    → length ls ≡ length ys + 1
    → weave (ys ++ xs) (ls ++ ks) ≡ weave ys ls ++ rest xs ks
weave-more ys xs [] ks e = absurd (omega arith)
weave-more [] [] (l ∷ []) ks e = sym (append-nil l)
weave-more [] (x ∷ xs) (l ∷ []) ks e = refl
weave-more [] xs (l ∷ (l2 ∷ ls)) ks e = absurd (omega arith)
weave-more (y ∷ ys) xs (l ∷ ls) ks e =
    ap (λ z. l ++ y ∷ z) (weave-more ys xs ls ks (omega arith)) ∙ sym (append_assoc l (y ∷ weave ys ls) (rest xs ks))

pub weave-append :
    (lo : List ℕ) (m : ℕ) (hi : List ℕ) (ks ls : List (List ℕ))
    → length ks ≡ length lo + 1
    → weave (lo ++ m ∷ hi) (ks ++ ls) ≡ weave lo ks ++ m ∷ weave hi ls
weave-append lo m hi ks ls e = weave-more lo (m ∷ hi) ks ls e

-- a woven list, taken apart at its i-th list, which k replaces
pub weave-set :
    (i : ℕ) (xs : List ℕ) (ks : List (List ℕ)) (k : List ℕ)
    → i < length ks
    → length ks ≡ length xs + 1
    → weave xs (set ks i k) ≡ before i xs ks ++ (k ++ after i xs ks)
weave-set i xs [] k p e = absurd (omega arith)
weave-set zero [] (l ∷ ks) k p e = sym (append-nil k)
weave-set zero (x ∷ xs) (l ∷ ks) k p e = refl
weave-set (suc i) [] (l ∷ ks) k p e = absurd (omega arith)
weave-set (suc i) (x ∷ xs) (l ∷ ks) k p e =
    ap (λ z. l ++ x ∷ z) (weave-set i xs ks k (omega arith) (omega arith))
    ∙ sym (append_assoc l (x ∷ before i xs ks) (k ++ after i xs ks))

pub apart : (i : ℕ) (xs : List ℕ) (ks : List (List ℕ)) (d : List ℕ) → i < length ks → length ks ≡ length xs + 1
    → weave xs ks ≡ before i xs ks ++ (get_or ks i d ++ after i xs ks)
apart i xs ks d p e = sym (ap (weave xs) (set-get_or ks i d)) ∙ weave-set i xs ks (get_or ks i d) p e

-- the place of the i-th index in a woven list
abbrev pub index_place : ℕ → List ℕ → List (List ℕ) → ℕ
index_place i xs ks = length (before i xs ks) + length (get_or ks i [])

-- an edit f at a place of the i-th list is an edit of the woven list, if what f does doesn't depend on the rest of it
pub weave-edit :
    (f : List ℕ → ℕ → List ℕ) (i : ℕ) (xs : List ℕ) (ks : List (List ℕ)) (d k : List ℕ) (q : ℕ)
    → i < length ks
    → length ks ≡ length xs + 1
    → k ≡ f (get_or ks i d) q
    → ((b ys : List ℕ) (n j : ℕ) → length b ≡ n → n ≤ j → f (b ++ ys) j ≡ b ++ f ys (j - n))
    → ((a : List ℕ) → f (get_or ks i d ++ a) q ≡ f (get_or ks i d) q ++ a)
    → weave xs (set ks i k) ≡ f (weave xs ks) (length (before i xs ks) + q)
weave-edit f i xs ks d k q p e is behind within =
    let b : List ℕ = before i xs ks in
    let a : List ℕ = after i xs ks in
    let g : List ℕ = get_or ks i d in
    let at : length b + q - length b ≡ q = omega arith in
    weave-set i xs ks k p e ∙ ap (λ z. b ++ (z ++ a)) is ∙ ap (λ z. b ++ z) (sym (ap (f (g ++ a)) at ∙ within a))
    ∙ sym (behind b (g ++ a) (length b) (length b + q) refl (omega arith))
    ∙ ap (λ z. f z (length b + q)) (sym (apart i xs ks d p e))

-- an index put into the i-th list
pub edited :
    (i : ℕ) (xs : List ℕ) (ks : List (List ℕ)) (d k : List ℕ) (q x : ℕ)
    → i < length ks
    → length ks ≡ length xs + 1
    → q ≤ length (get_or ks i d)
    → k ≡ insert (get_or ks i d) q x
    → weave xs (set ks i k) ≡ insert (weave xs ks) (length (before i xs ks) + q) x
edited i xs ks d k q x p e w is =
    weave-edit (λ z j. insert z j x) i xs ks d k q p e is (λ b ys n j. insert-append_right b ys n j x)
    (λ a. insert-append_left (get_or ks i d) a q x w)

-- a child that is split about an index
halved :
    (i : ℕ) (xs : List ℕ) (ks : List (List ℕ)) (l : List ℕ) (m : ℕ) (u : List ℕ)
    → i < length ks
    → length ks ≡ length xs + 1
    → weave (insert xs i m) (insert (set ks i l) (i + 1) u) ≡ weave xs (set ks i (l ++ m ∷ u))
halved i xs [] l m u p e = absurd (omega arith)
halved zero [] (k ∷ []) l m u p e = refl
halved zero [] (k ∷ (k2 ∷ ks)) l m u p e = absurd (omega arith)
halved zero (x ∷ xs) (k ∷ ks) l m u p e = sym (append_assoc l (m ∷ u) (x ∷ weave xs ks))
halved (suc i) [] (k ∷ ks) l m u p e = absurd (omega arith)
halved (suc i) (x ∷ xs) (k ∷ ks) l m u p e =
    let ih = rw add-one at (halved i xs ks l m u (omega arith) (omega arith)) in rw add-one (ap (λ z. k ++ x ∷ z) ih)

-- the same, for what a child's insert left
pub widened :
    (i : ℕ) (xs : List ℕ) (ks : List (List ℕ)) (d l u : List ℕ) (m q x : ℕ)
    → i < length ks
    → length ks ≡ length xs + 1
    → q ≤ length (get_or ks i d)
    → l ++ m ∷ u ≡ insert (get_or ks i d) q x
    → weave (insert xs i m) (insert (set ks i l) (i + 1) u) ≡ insert (weave xs ks) (length (before i xs ks) + q) x
widened i xs ks d l u m q x p e w is = halved i xs ks l m u p e ∙ edited i xs ks d (l ++ m ∷ u) q x p e w is

-- a place in the i-th list is a place in all
pub within :
    (i : ℕ) (xs : List ℕ) (ks : List (List ℕ)) (d : List ℕ) (q : ℕ)
    → i < length ks
    → length ks ≡ length xs + 1
    → q ≤ length (get_or ks i d)
    → length (before i xs ks) + q ≤ length (weave xs ks)
within i xs ks d q p e w =
    rw (apart i xs ks d p e) (omega (arith, length-append (before i xs ks) (get_or ks i d ++ after i xs ks), length-append (get_or ks i d) (after i xs ks)))
