-- Tables in order by keys.
use Rattle.std.specs.Prelude.{◌≡◌, ℕ, List, All, Some}
use Rattle.std.specs.Cmp.{IsTotalOrder}
use Rattle.std.specs.List.Sorted.{IsStrictlySortedBy}
use Rattle.std.specs.Ordering.{nat_cmp, on, then_cmp}
use Rattle.std.specs.declared.cmp.Ordering.{Ordering}
use Rattle.iddqd_order.specs.Search.{IsPlace, with_ties}

-- at each index of the list xs, the answer compares what is sought with the index's key
abbrev pub ComparesKeys : {K : Type 0} → (K → Ordering) → (ℕ → K) → (ℕ → Ordering) → List ℕ → Type 0
ComparesKeys compare key answer xs = All (λ j. answer j ≡ compare (key j)) xs

module _ {K : Type 0} (cmp : K → K → Ordering) (key : ℕ → K) where
  -- by key, and by index if the keys are equal
  abbrev pub key_then_index : ℕ → ℕ → Ordering
  key_then_index = then_cmp (on key cmp) nat_cmp

  -- the list is in order by key, and by index if keys are equal
  abbrev pub IsInKeyOrder : List ℕ → Type 0
  IsInKeyOrder xs = IsStrictlySortedBy key_then_index xs

-- An insert of ix keeps the order. `compare` is any lawful comparison of the keys at two indexes: if the old list is in
-- order, and ix belongs at the place, the new list is in order.
pub record InsertsInKeyOrder (old : List ℕ) (place ix : ℕ) (new : List ℕ) : Type 0 where
  pub keeps : (compare : ℕ → ℕ → Ordering) → IsTotalOrder compare →
      IsInKeyOrder compare (λ i. i) old → IsPlace (with_ties (Some ix) (compare ix)) old place →
      IsInKeyOrder compare (λ i. i) new

-- a removal keeps the order, by any comparison of the keys at two indexes
pub record StaysInKeyOrder (old new : List ℕ) : Type 0 where
  pub keeps : (compare : ℕ → ℕ → Ordering) →
      IsInKeyOrder compare (λ i. i) old → IsInKeyOrder compare (λ i. i) new
