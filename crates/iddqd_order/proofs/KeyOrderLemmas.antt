-- For callers too. What lawful keys give a table in order by key, ties by index.
use Rattle.iddqd_order.proofs.Names.{◌≡◌, ◌∙◌, ℕ, ◌+◌, ◌<◌, ◌==◌, ◌⊎◌, inl, inr, List, None, Some, length, map, get_or, insert, Contains, refl, sym, ap, eqb-true, zero, suc, [], ◌∷◌, ◌≤◌, Ordering, arith, IsTotalOrder, nat_cmp_is, IsStrictlySortedBy, nat_cmp, ordering_then, ordering_reverse, Less, Equal, Greater, nat_cmp_total, on_total, then_total, tied_itself, alike_right, by_ranked, cond_both, ranked, get_or_default, get_or-map, length-map, Contains-get_or, Less-from_sorted, recursion_from_All, All-from_recursion, sorted_from_all_adjacent, greater_before_in, key_then_index, IsInKeyOrder, ComparesKeys, InsertsInKeyOrder, StaysInKeyOrder, with_ties, IsRising, IsPlace, without, IsStrictlySortedBy-filter, Bool, true, false, not, IsTrue, subst}
use Rattle.iddqd_order.proofs.NodeLemmas.{All-insert}

-- if a is greater than b, b is less than a
Less-from_greater : {K : Type 0} {c : K → K → Ordering} → IsTotalOrder c → {a b : K} → c a b ≡ Greater → c b a ≡ Less
Less-from_greater o {a} {b} e = o.antisymm b a ∙ ap ordering_reverse e

-- a sorted list stays so where x goes between what is less and what is greater
sorted-insert :
    (c : ℕ → ℕ → Ordering) (xs : List ℕ) (p x : ℕ)
    → IsStrictlySortedBy c xs
    → p ≤ length xs
    → ((k : ℕ) → k < p → c (get_or xs k 0) x ≡ Less)
    → ((k : ℕ) → p ≤ k → k < length xs → c x (get_or xs k 0) ≡ Less)
    → IsStrictlySortedBy c (insert xs p x)
unfolding IsStrictlySortedBy
sorted-insert c xs zero x s le below above =
    (recursion_from_All (λ y. c x y ≡ Less) xs (λ k d lt. ap (c x) (get_or_default xs k d 0 lt) ∙ above k (omega arith) lt), s)
sorted-insert c [] (suc p) x s le below above = absurd (omega arith)
sorted-insert c (y ∷ ys) (suc p) x s le below above = (
  recursion_from_All (λ z. c y z ≡ Less) (insert ys p x)
      (All-insert (λ z. c y z ≡ Less) ys p x (All-from_recursion (λ z. c y z ≡ Less) ys s.0) (below 0 (omega arith))),
  sorted-insert c ys p x s.1 (omega arith) (λ k lt. below (suc k) (omega arith))
      (λ k from lt. above (suc k) (omega arith) (omega arith)),
)

-- a list of indexes that a total order sorts, and answers that place ix in that order
module _ {c : ℕ → ℕ → Ordering} (o : IsTotalOrder c) (xs : List ℕ) (sorted : IsStrictlySortedBy c xs) (ix : ℕ)
    (answer : ℕ → Ordering) (is : (k : ℕ) → k < length xs → answer (get_or xs k 0) ≡ c ix (get_or xs k 0)) where
  pub IsRising-from_sorted : IsRising answer xs
  IsRising-from_sorted = record {
    greater_before = λ i j lt within e.
        is i (omega arith)
        ∙ greater_before_in o ix _ _ (Less-from_sorted c xs i j 0 sorted lt within) (sym (is j within) ∙ e);
    less_after = λ i j lt within e.
        is j within ∙ o.trans _ _ _ (sym (is i (omega arith)) ∙ e) (Less-from_sorted c xs i j 0 sorted lt within);
  }

  pub IsStrictlySortedBy-insert : (place : ℕ) → IsPlace answer xs place → IsStrictlySortedBy c (insert xs place ix)
  IsStrictlySortedBy-insert place split =
      let within = split.within in
      sorted-insert c xs place ix sorted within
      (λ k lt. Less-from_greater o (sym (is k (omega arith)) ∙ split.greater_before k lt))
      (λ k from lt. sym (is k lt) ∙ split.less_from k from lt)

-- of two in order, the first has the smaller key or an equal one
keys_of : (r s : Ordering) → ordering_then r s ≡ Less → (r ≡ Less) ⊎ (r ≡ Equal)
keys_of Less s e = inl refl
keys_of Equal s e = inr refl
keys_of Greater s e = cc

module _ {K : Type 0} {cmp : K → K → Ordering} (o : IsTotalOrder cmp) (key : ℕ → K) where
  pub key_then_index-total : IsTotalOrder (key_then_index cmp key)
  key_then_index-total = then_total (on_total key o) nat_cmp_total

  -- answers that compare the key of ix, with ties, are those of the order by key, ties by index
  pub with_ties-key :
      (ix : ℕ) (answer : ℕ → Ordering) (xs : List ℕ)
      → ComparesKeys (cmp (key ix)) key answer xs
      → (k : ℕ)
      → k < length xs
      → with_ties (Some ix) answer (get_or xs k 0) ≡ key_then_index cmp key ix (get_or xs k 0)
  with_ties-key ix answer xs compares k lt =
      let j = get_or xs k 0 in
      cond_both (j == ix) Equal (ordering_then (answer j) (nat_cmp ix j)) (λ r. r ≡ key_then_index cmp key ix j)
      (λ e. sym (ap (key_then_index cmp key ix) (eqb-true j ix e) ∙ tied_itself key_then_index-total ix))
      (λ e. ap (λ r. ordering_then r (nat_cmp ix j)) (compares k 0 lt))

  -- Answers that compare the key of ix, for an insert or a removal of ix. A query compares as a key that it is
  -- equivalent to.
  module _ (ix : ℕ) (answer : ℕ → Ordering) (xs : List ℕ)
      (sorted : IsInKeyOrder cmp key xs) (compares : ComparesKeys (cmp (key ix)) key answer xs) where
    pub IsRising-own : IsRising (with_ties (Some ix) answer) xs
    IsRising-own = IsRising-from_sorted key_then_index-total xs sorted ix _ (with_ties-key ix answer xs compares)

    pub IsInKeyOrder-insert :
        (place : ℕ)
        → IsPlace (with_ties (Some ix) answer) xs place
        → IsInKeyOrder cmp key (insert xs place ix)
    IsInKeyOrder-insert =
        IsStrictlySortedBy-insert key_then_index-total xs sorted ix _ (with_ties-key ix answer xs compares)

  -- what agrees with the order of the keys
  module _ (compare : K → Ordering)
      (less_after : (a b : K) → cmp a b ≡ Less → compare a ≡ Less → compare b ≡ Less)
      (greater_before : (a b : K) → cmp a b ≡ Less → compare b ≡ Greater → compare a ≡ Greater)
      (equal_keys : (a b : K) → cmp a b ≡ Equal → compare a ≡ compare b)
      (xs : List ℕ) (answer : ℕ → Ordering) where
    pub IsRising-from_query :
        IsInKeyOrder cmp key xs
        → ComparesKeys compare key answer xs
        → IsRising (with_ties None answer) xs
    IsRising-from_query sorted is =
        let pairs : (i j : ℕ) → i < j → j < length xs → (cmp (key (get_or xs i 0)) (key (get_or xs j 0)) ≡ Less) ⊎ (cmp (key (get_or xs i 0)) (key (get_or xs j 0)) ≡ Equal) =
        λ i j lt within. keys_of _ _ (Less-from_sorted _ xs i j 0 sorted lt within) in
        record {
          greater_before = λ i j lt within e. is i 0 (omega arith) ∙ elim (pairs i j lt within) [
            | inl less ↦ greater_before _ _ less (sym (is j 0 within) ∙ e)
            | inr equal ↦ equal_keys _ _ equal ∙ sym (is j 0 within) ∙ e
          ];
          less_after = λ i j lt within e. is j 0 within ∙ elim (pairs i j lt within) [
            | inl less ↦ less_after _ _ less (sym (is i 0 (omega arith)) ∙ e)
            | inr equal ↦ sym (equal_keys _ _ equal) ∙ sym (is i 0 (omega arith)) ∙ e
          ];
        }

  -- a key agrees with the order of the keys
  pub IsRising-from_key :
      (sought : K) (xs : List ℕ) (answer : ℕ → Ordering)
      → IsInKeyOrder cmp key xs
      → ComparesKeys (cmp sought) key answer xs
      → IsRising (with_ties None answer) xs
  IsRising-from_key sought xs answer = IsRising-from_query (cmp sought)
      (λ a b lt less. o.trans sought a b less lt)
      (greater_before_in o sought)
      (λ a b equal. alike_right o a b sought equal)
      xs answer

-- a list with an index inserted
pub InsertsInKeyOrder-insert : (xs : List ℕ) (place ix : ℕ) → InsertsInKeyOrder xs place ix (insert xs place ix)
InsertsInKeyOrder-insert xs place ix =
    record { keeps = λ compare total sorted belongs. IsInKeyOrder-insert total (λ i. i) ix (compare ix) xs sorted (λ j d lt. refl) place belongs }

-- a list without an index
pub StaysInKeyOrder-without : (xs : List ℕ) (ix : ℕ) → StaysInKeyOrder xs (without xs ix)
StaysInKeyOrder-without xs ix =
    record { keeps = λ compare sorted. IsStrictlySortedBy-filter (key_then_index compare (λ i. i)) (λ j. not (j == ix)) xs sorted }

-- a removal that may have missed
pub StaysInKeyOrder-found :
    (found : Bool) (old new : List ℕ) (ix : ℕ)
    → (IsTrue found → new ≡ without old ix)
    → (found ≡ false → new ≡ old)
    → StaysInKeyOrder old new
StaysInKeyOrder-found true old new ix removed kept =
    subst (StaysInKeyOrder old) (sym (removed refl)) (StaysInKeyOrder-without old ix)
StaysInKeyOrder-found false old new ix removed kept =
    subst (StaysInKeyOrder old) (sym (kept refl)) (record { keeps = λ compare sorted. sorted })

-- keys of any type: an insert where the new key belongs, and a removal, keep their order
pub IsInKeyOrder-inserted :
    {K : Type 0} {cmp : K → K → Ordering} (total : IsTotalOrder cmp) (key : ℕ → K) (old new : List ℕ) (place ix : ℕ)
    → InsertsInKeyOrder old place ix new
    → IsInKeyOrder cmp key old
    → IsPlace (with_ties (Some ix) (λ j. cmp (key ix) (key j))) old place
    → IsInKeyOrder cmp key new
IsInKeyOrder-inserted {K} {cmp} total key old new place ix inserts sorted belongs =
    inserts.keeps (λ i j. cmp (key i) (key j)) (on_total key total) sorted belongs

pub IsInKeyOrder-removed :
    {K : Type 0} (cmp : K → K → Ordering) (key : ℕ → K) (old new : List ℕ)
    → StaysInKeyOrder old new
    → IsInKeyOrder cmp key old
    → IsInKeyOrder cmp key new
IsInKeyOrder-removed cmp key old new stays sorted = stays.keeps (λ i j. cmp (key i) (key j)) sorted

-- numbers that rise keep their comparison
less_again : (a b c d : ℕ) → (a < b → c < d) → nat_cmp a b ≡ Less → nat_cmp c d ≡ Less
less_again a b c d up less =
    let lt : a < b =
    by_ranked (a < b) (a ≡ b) (b < a) (nat_cmp a b) (ranked a b _ refl) (λ _ lt. lt) (λ e _. absurd (cc))
    (λ e _. absurd (cc)) in
    sym (nat_cmp_is c d Less (up lt))

-- a comparison with ties stays Less, if the way that breaks the tie stays Less
then_again : (r s t : Ordering) → (s ≡ Less → t ≡ Less) → ordering_then r s ≡ Less → ordering_then r t ≡ Less
then_again Less s t again e = refl
then_again Equal s t again e = again e
then_again Greater s t again e = cc

-- a list in key order stays so where each index gets a name that rises with it and keeps its key
pub IsInKeyOrder-renamed :
    {K : Type 0} {cmp : K → K → Ordering} (total : IsTotalOrder cmp) (key key' : ℕ → K) (name : ℕ → ℕ) (xs : List ℕ)
    → ((i : ℕ) → Contains xs i → key' (name i) ≡ key i)
    → ((i j : ℕ) → Contains xs i → Contains xs j → i < j → name i < name j)
    → IsInKeyOrder cmp key xs
    → IsInKeyOrder cmp key' (map name xs)
IsInKeyOrder-renamed {K} {cmp} total key key' name xs keeps rises sorted =
    sorted_from_all_adjacent (key_then_index-total total key') (map name xs) 0 (λ k in_new.
    let within : k + 1 < length xs = omega (arith, length-map xs name) in
    let lower : k < length xs = omega arith in
    let a = get_or xs k 0 in
    let b = get_or xs (k + 1) 0 in
    let has_a = Contains-get_or xs k 0 lower in
    let has_b = Contains-get_or xs (k + 1) 0 within in
    rw (get_or-map name xs k 0 0 lower, get_or-map name xs (k + 1) 0 0 within, keeps a has_a, keeps b has_b)
    (then_again (cmp (key a) (key b)) (nat_cmp a b) (nat_cmp (name a) (name b)) (less_again a b (name a) (name b) (rises a b has_a has_b)) (Less-from_sorted _ xs k (k + 1) 0 sorted (omega arith) within)))
