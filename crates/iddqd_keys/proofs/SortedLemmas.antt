-- For callers: live indexes that are sorted by key, and then by index.
use Rattle.std.proofs.Common.{◌≡◌, ◌<◌, ℕ, zero, suc, Bool, nat_eq, true, false, List, [], ◌∷◌, Some, None, slice_get, refl, ap, subst, arith}
use Rattle.std.specs.List.{AllByRecursion, Contains, IsDistinct}
use Rattle.std.specs.List.Sorted.{IsStrictlySortedBy}
use Rattle.std.specs.Cmp.{IsTotalOrder}
use Rattle.std.specs.Ordering.{nat_cmp, eq_by_cmp, is_eq}
use Rattle.std.specs.declared.cmp.Ordering.{Ordering}
use Rattle.std.specs.declared.cmp.Ordering.TheVariants.{Less, Equal}
use Rattle.std.proofs.lemmas.Cmp.{tied_itself, nat_cmp_total}
use Rattle.std.proofs.lemmas.Map.Keys.{IsDistinct-from_sorted, IsDistinct-cons, IsDistinct-head, IsDistinct-tail}
use Rattle.iddqd.specs.Store.{Store}
use Rattle.iddqd_keys.specs.KeyWalk.{by_key_then_index, ComesBefore, IsInPlace, key_at, SortsWithin}
use Rattle.iddqd_keys.specs.OrderedQuery.{is_equal}
use Rattle.iddqd_keys.proofs.KeyLemmas.{is_same, is_tied}

-- what holds of all holds at each position
all_at :
    (P : ℕ → Type 0) (xs : List ℕ) (n x : ℕ)
    → AllByRecursion P xs
    → slice_get xs n ≡ Some x
    → P x
all_at P [] n x all is = absurd (cc)
all_at P (y ∷ rest) zero x all is = let same : y ≡ x = cc in subst P same all.0
all_at P (y ∷ rest) (suc n) x all is = all_at P rest n x all.1 is

-- of two positions the later one has the index that comes later
module _ {T K : Type 0} (key_of : T → K) (compare : K → K → Ordering) (s : Store T) where
  pub sorted_at :
      (indexes : List ℕ) (m n i j : ℕ)
      → IsInPlace key_of compare s indexes
      → m < n
      → slice_get indexes m ≡ Some i
      → slice_get indexes n ≡ Some j
      → ComesBefore key_of compare s i j
  unfolding IsStrictlySortedBy
  sorted_at [] m n i j sorted less first second = absurd (cc)
  sorted_at (x ∷ rest) m zero i j sorted less first second = absurd (omega arith)
  sorted_at (x ∷ rest) zero (suc n) i j sorted less first second =
      let same : x ≡ i = cc in
      subst (λ k. ComesBefore key_of compare s k j) same
      (all_at (λ y. ComesBefore key_of compare s x y) rest n j sorted.0 second)
  sorted_at (x ∷ rest) (suc m) (suc n) i j sorted less first second =
      sorted_at rest m n i j sorted.1 (omega arith) first second

-- indexes that are sorted by a key in a total order, and then by index, are distinct
module _
    {T K : Type 0} (key_of : T → K) (compare : K → K → Ordering) (total : IsTotalOrder compare) (s : Store T)
  where
    tied : (ix : ℕ) → by_key_then_index key_of compare s ix ix ≡ Equal
    tied ix =
        elim (key_at key_of s ix) as (λ o. key_at key_of s ix ≡ o → by_key_then_index key_of compare s ix ix ≡ Equal) [
          | Some key ↦ λ is. rw (is, tied_itself total key) (tied_itself nat_cmp_total ix)
          | None ↦ λ is. rw is (tied_itself nat_cmp_total ix)
        ] refl

    apart :
        (ix : ℕ) (rest : List ℕ)
        → AllByRecursion (λ j. eq_by_cmp (by_key_then_index key_of compare s) ix j ≡ false) rest
        → AllByRecursion (λ j. nat_eq ix j ≡ false) rest
    apart ix [] all = all
    apart ix (j ∷ rest) (one, others) = (
      elim (nat_eq ix j) as (λ b. nat_eq ix j ≡ b → nat_eq ix j ≡ false) [
        | true ↦ λ is.
            let same : j ≡ ix = (is_same ix j).0 is in
            let equal : is_eq (by_key_then_index key_of compare s ix j) ≡ true = rw same (ap is_eq (tied ix)) in
            absurd (cc)
        | false ↦ λ is. is
      ] refl,
      apart ix rest others,
    )

    distinct :
        (indexes : List ℕ)
        → IsDistinct (eq_by_cmp (by_key_then_index key_of compare s)) indexes
        → IsDistinct nat_eq indexes
    unfolding IsDistinct
    distinct [] once = once
    distinct (ix ∷ rest) once =
        IsDistinct-cons nat_eq ix rest
        (apart ix rest (IsDistinct-head (eq_by_cmp (by_key_then_index key_of compare s)) ix rest once))
        (distinct rest (IsDistinct-tail (eq_by_cmp (by_key_then_index key_of compare s)) ix rest once))

    pub sorted_once :
        (within : K → Bool) (indexes : List ℕ)
        → SortsWithin key_of compare within s indexes
        → IsDistinct nat_eq indexes
    sorted_once within indexes sorted =
        distinct indexes (IsDistinct-from_sorted (by_key_then_index key_of compare s) indexes sorted.placed)

-- and where their items share a key, an unsigned number, they rise
module _ {T : Type 0} (key_of : T → ℕ) (s : Store T) where
  above :
      (key ix : ℕ) (rest : List ℕ)
      → key_at key_of s ix ≡ Some key
      → ((j : ℕ) → Contains rest j → key_at key_of s j ≡ Some key)
      → AllByRecursion (λ j. by_key_then_index key_of nat_cmp s ix j ≡ Less) rest
      → AllByRecursion (λ j. nat_cmp ix j ≡ Less) rest
  above key ix [] here shared all = all
  above key ix (j ∷ rest) here shared (one, others) =
      let there : key_at key_of s j ≡ Some key = shared j (zero, omega arith, refl) in (
        rw (here, there, tied_itself nat_cmp_total key) at one,
        above key ix rest here (λ i (n, within, is). shared i (suc n, omega (arith, within), is)) others,
      )

  rising :
      (key : ℕ) (indexes : List ℕ)
      → ((ix : ℕ) → Contains indexes ix → key_at key_of s ix ≡ Some key)
      → IsStrictlySortedBy (by_key_then_index key_of nat_cmp s) indexes
      → IsStrictlySortedBy nat_cmp indexes
  unfolding IsStrictlySortedBy
  rising key [] shared sorted = sorted
  rising key (ix ∷ rest) shared (first, others) =
      let behind : (j : ℕ) → Contains rest j → key_at key_of s j ≡ Some key =
      λ j (n, within, is). shared j (suc n, omega (arith, within), is) in
      (above key ix rest (shared ix (zero, omega arith, refl)) behind first, rising key rest behind others)

  module _ (key : ℕ) where
    -- the indexes of a group stand in their own order
    pub sorted_rise :
        (indexes : List ℕ)
        → SortsWithin key_of nat_cmp (is_equal (nat_cmp key)) s indexes
        → IsStrictlySortedBy nat_cmp indexes
    sorted_rise indexes sorted =
        rising key indexes
        (λ ix here.
        let (item, live, passes) = (sorted.each ix).0 here in
        rw live (ap Some ((is_tied key (key_of item)).0 passes)))
        sorted.placed
