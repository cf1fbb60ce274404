-- For callers too. What an insert and a removal keep of a list.
use Rattle.iddqd_order.proofs.Names.{◌≡◌, ◌≢◌, ◌∙◌, ℕ, zero, suc, ◌<◌, ◌==◌, List, [], ◌∷◌, length, get_or, Contains, refl, sym, ap, arith, nat_eq, not, Bool, true, false, insert, remove, filter, ne_eqb, nat_tests, nat_eq_equiv, IsDistinct, AllByRecursion, apart_from_distinct, IsDistinct-from_apart, IsDistinct-head, IsDistinct-tail, IsDistinct-cons, IsDistinct-IsPermutation, IsPermutation-insert, AllPairs-filter, All-contains, All-filter, All-nil, All-get_or, All-from_recursion, recursion_from_All, get_or_default, IsIndexList, sentinel, without}
use Rattle.iddqd_order.proofs.NodeLemmas.{All-insert}

pub Contains-at : (xs : List ℕ) (i x : ℕ) → i < length xs → x ≡ get_or xs i 0 → Contains xs x
Contains-at xs i x h e = (i, h, sym (e ∙ get_or_default xs i 0 x h))

pub IsIndexList-nil : IsIndexList []
unfolding IsDistinct
IsIndexList-nil = record { distinct = tt; assigned = All-nil (λ ix. ix ≢ sentinel) }

-- an index that isn't stored differs from each stored one
apart-from_missing : (xs : List ℕ) (x : ℕ) → (Contains xs x → ⊥) → AllByRecursion (λ y. nat_eq x y ≡ false) xs
apart-from_missing xs x none =
    recursion_from_All (λ y. nat_eq x y ≡ false) xs
    (λ k d lt. ne_eqb x _ (λ e. none (k, lt, sym (e ∙ get_or_default xs k d x lt))))

-- distinct indexes stay distinct if another one is inserted
pub IsDistinct-insert :
    (xs : List ℕ) (p x : ℕ)
    → (Contains xs x → ⊥)
    → IsDistinct nat_eq xs
    → IsDistinct nat_eq (insert xs p x)
IsDistinct-insert xs p x absent distinct =
    IsDistinct-IsPermutation nat_eq nat_eq_equiv.symm (x ∷ xs) (insert xs p x) (IsPermutation-insert xs p x)
    (IsDistinct-cons nat_eq x xs (apart-from_missing xs x absent) distinct)

pub IsIndexList-insert :
    (xs : List ℕ) (p x : ℕ)
    → (Contains xs x → ⊥)
    → x ≢ sentinel
    → IsIndexList xs
    → IsIndexList (insert xs p x)
IsIndexList-insert xs p x absent assigned h =
    record {
      distinct = IsDistinct-insert xs p x absent h.distinct;
      assigned = All-insert (λ ix. ix ≢ sentinel) xs p x h.assigned assigned;
    }

-- `SENTINEL` is none of them
pub sentinel-absent : (xs : List ℕ) → IsIndexList xs → Contains xs sentinel → ⊥
sentinel-absent xs h held = All-contains (λ j. j ≢ sentinel) xs sentinel h.assigned held refl

-- and if some are left out
pub IsDistinct-filter : (t : ℕ → Bool) (xs : List ℕ) → IsDistinct nat_eq xs → IsDistinct nat_eq (filter t xs)
IsDistinct-filter t xs h =
    IsDistinct-from_apart nat_eq (filter t xs) (AllPairs-filter (λ a b. nat_eq a b ≡ false) t xs (λ i j d lt below. apart_from_distinct nat_eq xs i j d h lt below))

pub IsIndexList-filter : (t : ℕ → Bool) (xs : List ℕ) → IsIndexList xs → IsIndexList (filter t xs)
IsIndexList-filter t xs h =
    record { distinct = IsDistinct-filter t xs h.distinct; assigned = All-filter t (λ ix. ix ≢ sentinel) xs h.assigned }

-- if none is x, all stay without x
without-absent : (x : ℕ) (xs : List ℕ) → AllByRecursion (λ y. nat_eq x y ≡ false) xs → without xs x ≡ xs
without-absent x [] h = refl
without-absent x (y ∷ ys) h =
    let kept : not (y == x) ≡ true = (let apart = h.0 in grind (arith, nat_tests)) in
    rw kept (ap (λ zs. y ∷ zs) (without-absent x ys h.1))

-- the same, if x isn't stored
pub without-missing : (xs : List ℕ) (x : ℕ) → (Contains xs x → ⊥) → without xs x ≡ xs
without-missing xs x none = without-absent x xs (apart-from_missing xs x none)

-- if indexes are distinct, the removal at a place leaves all except the index there
pub remove-distinct :
    (xs : List ℕ) (p : ℕ)
    → IsDistinct nat_eq xs
    → p < length xs
    → remove xs p ≡ without xs (get_or xs p 0)
remove-distinct [] p h lt = absurd (omega arith)
remove-distinct (x ∷ xs) zero h lt =
    let left_out : not (x == x) ≡ false = grind (arith, nat_tests) in
    rw left_out (sym (without-absent x xs (IsDistinct-head nat_eq x xs h)))
remove-distinct (x ∷ xs) (suc p) h lt =
    let lower : p < length xs = omega arith in
    let apart : nat_eq x (get_or xs p 0) ≡ false =
    All-get_or (λ y. nat_eq x y ≡ false) xs p 0 lower
    (All-from_recursion (λ y. nat_eq x y ≡ false) xs (IsDistinct-head nat_eq x xs h)) in
    let kept : not (x == get_or xs p 0) ≡ true = grind (arith, nat_tests) in
    rw kept (ap (λ ys. x ∷ ys) (remove-distinct xs p (IsDistinct-tail nat_eq x xs h) lower))
