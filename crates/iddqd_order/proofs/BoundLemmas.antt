-- For callers. What stands between two bounds is what is within both.
use Rattle.iddqd_order.proofs.Names.{◌≡◌, ℕ, zero, suc, ◌-◌, Bool, not, List, [], ◌∷◌, take, drop, filter, refl, sym, ap, ◌∙◌, arith, Ordering, Less, Greater, IsPlace, part}
use Rattle.std.specs.Prelude.{◌&&◌}
use Rattle.std.specs.Borrow.{Bor}
use Rattle.std.specs.Ordering.{is_gt}
use Rattle.std.specs.Range.Bound.{bound_map}
use Rattle.std.specs.declared.ops.Bound.{Bound}
use Rattle.std.specs.declared.ops.Bound.TheVariants.{Included, Excluded, Unbounded}
use Rattle.iddqd_order.specs.Range.{bound_reading}
use Rattle.iddqd_order.specs.declared.btree_table.reading.ByQuery.{ByQuery}

bound_map-twice :
    {A B C : Type 0} (g : B → C) (f : A → B) (b : Bound A)
    → bound_map g (bound_map f b) ≡ bound_map (λ x. g (f x)) b
bound_map-twice g f (Included x) = refl
bound_map-twice g f (Excluded x) = refl
bound_map-twice g f Unbounded = refl

-- a borrowed bound by a query reads a key as the query compares with it
pub reads_by_query :
    {Q K : Type 0} (compare : Q → K → Ordering) (lent : Bound (Bor (ByQuery Q))) (own : Bound (ByQuery Q))
    (bound : Bound (Bor Q))
    → bound_map (λ by. by.now) lent ≡ own
    → bound_map (λ (by : ByQuery Q). by.0) own ≡ bound
    → bound_reading (λ by k. compare by.0.now k) lent ≡ bound_reading compare bound
reads_by_query {Q} {K} compare lent own bound is_own is_bound =
    let read : Bor Q → K → Ordering = λ q. compare q.now in
    sym (bound_map-twice (λ (by : ByQuery Q). read by.0) (λ (by : Bor (ByQuery Q)). by.now) lent)
    ∙ ap (bound_map (λ (by : ByQuery Q). read by.0)) is_own
    ∙ sym (bound_map-twice read (λ (by : ByQuery Q). by.0) own) ∙ ap (bound_map read) is_bound

-- whether an index stands behind the lower bound and before the upper one
abbrev pub is_within : (ℕ → Ordering) → (ℕ → Ordering) → ℕ → Bool
is_within lower upper ix = not (is_gt (lower ix)) && is_gt (upper ix)

place-next : (a : ℕ → Ordering) (x : ℕ) (xs : List ℕ) (i : ℕ) → IsPlace a (x ∷ xs) (suc i) → IsPlace a xs i
place-next a x xs i p = record {
  within = (let w = p.within in omega arith);
  greater_before = λ k lt. p.greater_before (suc k) (omega arith);
  less_from = λ k le lt. p.less_from (suc k) (omega arith) (omega arith);
}

place-first : (a : ℕ → Ordering) (x : ℕ) (xs : List ℕ) → IsPlace a (x ∷ xs) 0 → IsPlace a xs 0
place-first a x xs p = record {
  within = omega arith;
  greater_before = λ k lt. absurd (omega arith);
  less_from = λ k le lt. p.less_from (suc k) (omega arith) (omega arith);
}

take-none : (k : ℕ) → take {A = ℕ} k [] ≡ []
take-none zero = refl
take-none (suc k) = refl

none-left : (i : ℕ) (xs : List ℕ) → part i 0 xs ≡ []
none-left i xs = let none : 0 - i ≡ 0 = omega arith in ap (λ k. take k (drop i xs)) none

-- the indexes between the places of the two bounds are those within both
pub part-within :
    (lower upper : ℕ → Ordering) (xs : List ℕ) (from to : ℕ)
    → IsPlace lower xs from
    → IsPlace upper xs to
    → part from to xs ≡ filter (is_within lower upper) xs
part-within lower upper [] zero to low high = take-none (to - 0)
part-within lower upper [] (suc i) to low high = take-none (to - suc i)
part-within lower upper (x ∷ xs) zero zero low high =
    let here : upper x ≡ Less = high.less_from 0 (omega arith) (omega arith) in
    let after : lower x ≡ Less = low.less_from 0 (omega arith) (omega arith) in
    let rest = part-within lower upper xs 0 0 (place-first lower x xs low) (place-first upper x xs high) in
    rw (after, here) rest
part-within lower upper (x ∷ xs) zero (suc j) low high =
    let here : upper x ≡ Greater = high.greater_before 0 (omega arith) in
    let after : lower x ≡ Less = low.less_from 0 (omega arith) (omega arith) in
    let rest = part-within lower upper xs 0 j (place-first lower x xs low) (place-next upper x xs j high) in
    let more : suc j - 0 ≡ suc (j - 0) = omega arith in
    rw (after, here, more) (ap (λ z. x ∷ z) rest)
part-within lower upper (x ∷ xs) (suc i) zero low high =
    let before : lower x ≡ Greater = low.greater_before 0 (omega arith) in
    let rest = part-within lower upper xs i 0 (place-next lower x xs i low) (place-first upper x xs high) in
    rw before (none-left (suc i) (x ∷ xs) ∙ sym (none-left i xs) ∙ rest)
part-within lower upper (x ∷ xs) (suc i) (suc j) low high =
    let before : lower x ≡ Greater = low.greater_before 0 (omega arith) in
    let rest = part-within lower upper xs i j (place-next lower x xs i low) (place-next upper x xs j high) in
    let same : suc j - suc i ≡ j - i = omega arith in
    rw (before, same) rest
