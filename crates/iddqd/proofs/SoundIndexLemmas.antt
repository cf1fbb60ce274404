-- For callers: which lists of indexes are sound.
use Rattle.std.proofs.Common.{◌≡◌, ◌≢◌, ◌↔◌, ℕ, zero, suc, ◌+◌, ◌-◌, ◌<◌, ◌≤◌, Bool, true, false, nat_eq, List, [], ◌∷◌, length, get_or, slice_index, Result, refl, sym, ap, subst, ◌∙◌, arith, add-one, add-zero, zero-add}
use Rattle.std.specs.List.{All, Contains, IsDistinct, dedup, remove}
use Rattle.std.specs.List.Sorted.{IsPermutation, IsSorted, IsStrictlyIncreasing}
use Rattle.std.specs.Ordering.{nat_cmp}
use Rattle.std.specs.Cmp.{nat_eq_equiv}
use Rattle.std.specs.Set.{is_member}
use Rattle.std.proofs.lemmas.Bool.Decides.{Decides-eqb, Decides-like, same_from_decides}
use Rattle.std.proofs.lemmas.List.{same_lists, nil_from_length, get_or_default}
use Rattle.std.proofs.lemmas.List.Elements.{All-contains, All-tail, All-from_recursion}
use Rattle.std.proofs.lemmas.List.Kept.{Contains-dedup_nat, Contains-from_dedup}
use Rattle.std.proofs.lemmas.List.Sorted.{IsPermutation-refl, IsPermutation-sym, IsPermutation-trans, IsPermutation-cons, IsPermutation-to_front, IsPermutation-remove, length_permutation, All-permutation, IsNonDecreasingBy-from_sort}
use Rattle.std.proofs.lemmas.Map.Keys.{IsDistinct-head, IsDistinct-tail, IsDistinct-from_apart, IsDistinct-IsPermutation, IsStrictlyIncreasing-from_distinct, IsStrictlyIncreasing-dedup, sorted_from_strictly_increasing, below_from_sorted}
use Rattle.std.proofs.lemmas.Map.Made.{is_member-Decides, length-from_keys, IsDistinct-from_count, distinct_count-from_IsDistinct}
use Rattle.std.proofs.lemmas.Map.Steps.{length-le_from_distinct_below}
use Rattle.iddqd.specs.declared.internal.ValidateCompact.{ValidateCompact}
use Rattle.iddqd.specs.declared.internal.ValidateCompact.TheVariants.{Compact, NonCompact}
use Rattle.iddqd.specs.Compaction.{numbers, sentinel}
use Rattle.iddqd.specs.declared.internal.ValidateRefusal.{ValidateRefusal}
use Rattle.iddqd.specs.Validation.{AreSound, AreAsExpected, AreSoundInOrder, Validates}
use Rattle.iddqd.proofs.CompactionLemmas.{numbers_more, length-numbers, get_or-numbers}
use Rattle.iddqd.proofs.StoreLemmas.{differs, same_if}
use Rattle.iddqd.proofs.ValidationLemmas.{Validates-alike}

pub nat_eq-flips : (x y : ℕ) → nat_eq x y ≡ nat_eq y x
nat_eq-flips x y = same_from_decides (nat_eq x y) (nat_eq y x) (Decides-eqb x y) (Decides-like (nat_eq y x) sym sym (Decides-eqb y x))

-- numbers that rise differ
distinct_if_rising : (xs : List ℕ) → IsStrictlyIncreasing xs → IsDistinct nat_eq xs
distinct_if_rising xs rises =
    IsDistinct-from_apart nat_eq xs (λ i j d before within. let below = below_from_sorted xs i j d (sorted_from_strictly_increasing xs rises) before within in differs (get_or xs i d) (get_or xs j d) (omega arith))

distinct-numbers : (n : ℕ) → IsDistinct nat_eq (numbers n)
distinct-numbers n =
    IsDistinct-from_apart nat_eq (numbers n) (λ i j d before within. let size = length-numbers n in rw (get_or-numbers n i d (omega arith), get_or-numbers n j d (omega arith)) (differs i j (omega arith)))

below-numbers : (n : ℕ) → All (λ x. x < n) (numbers n)
below-numbers n = λ k d within. let size = length-numbers n in rw (get_or-numbers n k d (omega arith)) (omega arith)

-- each step of rising numbers is at least one
rise_by :
    (xs : List ℕ)
    → IsStrictlyIncreasing xs
    → (i more : ℕ)
    → i + more < length xs
    → slice_index xs i + more ≤ slice_index xs (i + more)
rise_by xs rises i zero within = rw (add-zero i) (omega arith)
rise_by xs rises i (suc more) within =
    let before = rise_by xs rises i more (omega arith) in
    let step = rises (i + more) (omega arith) in
    let next : i + more + 1 ≡ i + suc more = omega arith in
    let shown = rw next at step in
    omega (arith, before, shown)

-- rising numbers below their count stand each at its own place
rising-is : (ys : List ℕ) → IsStrictlyIncreasing ys → All (λ y. y < length ys) ys → ys ≡ numbers (length ys)
rising-is ys rises below =
    let n = length ys in
    same_lists ys (numbers n) (sym (length-numbers n)) (λ k d within. get_or_default ys k d 0 within ∙ at k within ∙ sym (get_or-numbers n k d within))
  where
    at : (k : ℕ) → k < length ys → slice_index ys k ≡ k
    at k within =
        let rest = length ys - 1 - k in
        let least = rise_by ys rises 0 k (omega arith) in
        let least_here = rw (zero-add k) at least in
        let last : k + rest ≡ length ys - 1 = omega arith in
        let most = rise_by ys rises k rest (omega arith) in
        let most_here = rw last at most in
        let top : slice_index ys (length ys - 1) < length ys = below (length ys - 1) 0 (omega arith) in
        omega (arith, least_here, most_here, top)

module _ (xs ys : List ℕ) (moved : IsPermutation xs ys) where
  -- a list that is sorted to the numbers below its length is those in another order
  arranged-from_sorted : ys ≡ numbers (length ys) → IsPermutation (numbers (length xs)) xs
  arranged-from_sorted is =
      let size = length_permutation xs ys moved in
      IsPermutation-sym _ _ (subst (λ l. IsPermutation xs l) (is ∙ ap numbers size) moved)

  -- and such a list is sorted to those
  sorted-from_arranged : IsSorted nat_cmp ys → IsPermutation (numbers (length xs)) xs → ys ≡ numbers (length ys)
  sorted-from_arranged sorted arranged =
      let size = length_permutation xs ys moved in
      let whole = IsPermutation-trans (numbers (length xs)) xs ys arranged moved in
      let apart = IsDistinct-IsPermutation nat_eq nat_eq-flips (numbers (length xs)) ys whole (distinct-numbers (length xs)) in
      let rises = IsStrictlyIncreasing-from_distinct ys (IsNonDecreasingBy-from_sort (λ x. x) ys sorted) apart in
      let below = All-permutation (λ x. x < length xs) (numbers (length xs)) ys whole (below-numbers (length xs)) in
      rising-is ys rises (subst (λ n. All (λ x. x < n) ys) (sym size) below)

  distinct-moved : IsDistinct nat_eq xs → IsDistinct nat_eq ys
  distinct-moved = IsDistinct-IsPermutation nat_eq nat_eq-flips xs ys moved

-- a sorted list has no number twice exactly where none is dropped with the repeated ones
pub all_unique : (xs : List ℕ) → IsSorted nat_cmp xs → (length (dedup nat_eq xs) ≡ length xs) ↔ IsDistinct nat_eq xs
all_unique xs sorted =
    let members = λ (q : ℕ). same_from_decides (is_member nat_eq (dedup nat_eq xs) q) (is_member nat_eq xs q) (Decides-like (is_member nat_eq (dedup nat_eq xs) q) (Contains-from_dedup nat_eq xs q) (Contains-dedup_nat xs q) (is_member-Decides Decides-eqb (dedup nat_eq xs) q)) (is_member-Decides Decides-eqb xs q) in
    let count = length-from_keys nat_eq_equiv (dedup nat_eq xs) xs (distinct_if_rising (dedup nat_eq xs) (IsStrictlyIncreasing-dedup xs sorted)) members in (
      λ same. IsDistinct-from_count nat_eq_equiv xs (sym count ∙ same),
      λ apart. count ∙ distinct_count-from_IsDistinct nat_eq_equiv xs apart,
    )

-- what the checks of a sorted copy say of the list
module _ (expected : ℕ) (xs ys : List ℕ) (size : length xs ≡ expected) (moved : IsPermutation xs ys) where
  pub AreSound-by_places :
      {E : Type 0}
      → IsSorted nat_cmp ys
      → (result : Result (Unit {0}) (ValidateRefusal E))
      → Validates (ys ≡ numbers (length ys)) result
      → Validates (AreSound Compact expected xs) result
  AreSound-by_places sorted result =
      Validates-alike _ _ result
      (λ is. (size, subst (λ n. IsPermutation (numbers n) xs) size (arranged-from_sorted xs ys moved is)))
      (λ sound. sorted-from_arranged xs ys moved sorted (subst (λ n. IsPermutation (numbers n) xs) (sym size) sound.1))

  pub AreSound-if_distinct : IsDistinct nat_eq ys → AreSound NonCompact expected xs
  AreSound-if_distinct apart = (size, IsDistinct-IsPermutation nat_eq nat_eq-flips ys xs (IsPermutation-sym xs ys moved) apart)

  pub AreSound-by_distinct :
      {E : Type 0}
      → (result : Result (Unit {0}) (ValidateRefusal E))
      → Validates (IsDistinct nat_eq ys) result
      → Validates (AreSound NonCompact expected xs) result
  AreSound-by_distinct result = Validates-alike _ _ result AreSound-if_distinct (λ sound. distinct-moved xs ys moved sound.1)

-- of an ordered table `SENTINEL` is sought before or after
pub AreSoundInOrder-assigned :
    {E : Type 0} (mode : ValidateCompact) (expected : ℕ) (xs : List ℕ) (result : Result (Unit {0}) (ValidateRefusal E))
    → (Contains xs sentinel → ⊥)
    → Validates (AreSound mode expected xs) result
    → Validates (AreSoundInOrder mode expected xs) result
AreSoundInOrder-assigned mode expected xs result assigned =
    Validates-alike (AreSound mode expected xs) (AreSoundInOrder mode expected xs) result (λ sound. (sound, assigned)) (λ sound. sound.0)

pub AreSoundInOrder-sound :
    {E : Type 0} (mode : ValidateCompact) (expected : ℕ) (xs : List ℕ) (result : Result (Unit {0}) (ValidateRefusal E))
    → AreSound mode expected xs
    → Validates (Contains xs sentinel → ⊥) result
    → Validates (AreSoundInOrder mode expected xs) result
AreSoundInOrder-sound mode expected xs result sound =
    Validates-alike (Contains xs sentinel → ⊥) (AreSoundInOrder mode expected xs) result (λ assigned. (sound, assigned)) (λ whole. whole.1)

-- distinct numbers below their count are those below it, in some order
arranged-from_below :
    (n : ℕ) (xs : List ℕ)
    → length xs ≡ n
    → IsDistinct nat_eq xs
    → All (λ x. x < n) xs
    → IsPermutation (numbers n) xs
arranged-from_below zero xs size apart below = subst (λ l. IsPermutation [] l) (sym (nil_from_length xs size)) (IsPermutation-refl [])
arranged-from_below (suc n) xs size apart below = by_test (λ rest. arranged-from_below n rest) (is_member nat_eq xs n) refl
  where
    by_test :
        ((rest : List ℕ) → length rest ≡ n → IsDistinct nat_eq rest → All (λ x. x < n) rest → IsPermutation (numbers n)
        rest)
        → (b : Bool)
        → is_member nat_eq xs n ≡ b
        → IsPermutation (numbers (suc n)) xs
    by_test shorter true member =
        let place = (is_member-Decides Decides-eqb xs n).0 member in
        let rest = remove xs place.0 in
        let split = IsPermutation-remove xs place.0 n place.1 (sym place.2) in
        let parts = IsDistinct-IsPermutation nat_eq nat_eq-flips xs (n ∷ rest) split apart in
        let others = All-from_recursion (λ y. nat_eq n y ≡ false) rest (IsDistinct-head nat_eq n rest parts) in
        let small = All-tail (λ x. x < suc n) n rest (All-permutation (λ x. x < suc n) xs (n ∷ rest) split below) in
        let below_n : All (λ x. x < n) rest = λ k d within. let other = same_if n (get_or rest k d) (others k d within) in let least = small k d within in omega (arith, other, least) in
        let size_of_rest : length rest ≡ n = omega (arith, length_permutation xs (n ∷ rest) split) in
        let inner = shorter rest size_of_rest (IsDistinct-tail nat_eq n rest parts) below_n in
        let front = subst (λ l. IsPermutation l (n ∷ numbers n)) (sym (ap numbers (sym (add-one n)) ∙ numbers_more n)) (IsPermutation-to_front (numbers n) n) in
        IsPermutation-trans (numbers (suc n)) (n ∷ numbers n) xs front (IsPermutation-trans (n ∷ numbers n) (n ∷ rest) xs (IsPermutation-cons n (numbers n) rest inner) (IsPermutation-sym xs (n ∷ rest) split))
    by_test shorter false other =
        let outside : (x : ℕ) → Contains xs x → x < n = λ x listed. (
        let apart_from : x ≢ n = λ same. (let member = (is_member-Decides Decides-eqb xs n).1 (subst (λ i. Contains xs i) same listed) in cc) in
        let least : x < suc n = All-contains (λ y. y < suc n) xs x below listed in
        omega (arith, apart_from, least)) in
        absurd (omega (arith, length-le_from_distinct_below xs n apart (λ q member. outside q ((is_member-Decides Decides-eqb xs q).0 member))))

-- distinct indexes are sound where they are as expected
pub AreSound-as_expected :
    (mode : ValidateCompact) (expected : ℕ) (xs : List ℕ)
    → IsDistinct nat_eq xs
    → AreSound mode expected xs ↔ AreAsExpected mode expected xs
AreSound-as_expected Compact expected xs apart = (
  λ sound. (sound.0, All-permutation (λ x. x < expected) (numbers expected) xs sound.1 (below-numbers expected)),
  λ told. (told.0, arranged-from_below expected xs told.0 apart told.1),
)
AreSound-as_expected NonCompact expected xs apart = (λ sound. sound.0, λ told. (told, apart))

module _ (mode : ValidateCompact) (expected : ℕ) (xs : List ℕ) where
  -- in another order they are as expected too
  AreAsExpected-moved :
      (ys : List ℕ)
      → IsPermutation xs ys
      → AreAsExpected mode expected xs
      → AreAsExpected mode expected ys
  AreAsExpected-moved ys moved = by_mode mode
    where
      by_mode : (mode : ValidateCompact) → AreAsExpected mode expected xs → AreAsExpected mode expected ys
      by_mode Compact told = (length_permutation xs ys moved ∙ told.0, All-permutation (λ x. x < expected) xs ys moved told.1)
      by_mode NonCompact told = length_permutation xs ys moved ∙ told

-- what a validator answers of a table's indexes, which are distinct
module _
    {E : Type 0} (mode : ValidateCompact) (expected : ℕ) (xs : List ℕ) (apart : IsDistinct nat_eq xs)
    (result : Result (Unit {0}) (ValidateRefusal E))
  where
    pub Validates-listed :
        (ys : List ℕ)
        → IsPermutation xs ys
        → Validates (AreSound mode expected ys) result
        → Validates (AreAsExpected mode expected xs) result
    Validates-listed ys moved =
        let same = AreSound-as_expected mode expected ys (distinct-moved xs ys moved apart) in
        Validates-alike (AreSound mode expected ys) (AreAsExpected mode expected xs) result
        (λ sound. AreAsExpected-moved mode expected ys xs (IsPermutation-sym xs ys moved) (same.0 sound))
        (λ told. same.1 (AreAsExpected-moved mode expected xs ys moved told))

    pub Validates-in_order :
        (Contains xs sentinel → ⊥)
        → Validates (AreSoundInOrder mode expected xs) result
        → Validates (AreAsExpected mode expected xs) result
    Validates-in_order assigned =
        let same = AreSound-as_expected mode expected xs apart in
        Validates-alike (AreSoundInOrder mode expected xs) (AreAsExpected mode expected xs) result (λ sound. same.0 sound.0) (λ told. (same.1 told, assigned))
