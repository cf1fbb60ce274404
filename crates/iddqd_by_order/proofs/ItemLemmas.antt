-- A table that is in order by the keys of the items is in order by the items, which compare by their keys.
use Rattle.std.proofs.Common.{◌≡◌, ℕ, Bool, List, Option, Some, None, refl, sym, ap, subst, Ordering}
use Rattle.std.specs.List.Sorted.{IsStrictlySortedBy}
use Rattle.std.specs.Option.{option_cmp, option_map}
use Rattle.std.specs.Ordering.{nat_cmp, on, ordering_then}
use Rattle.iddqd.specs.Store.{Store, get}
use Rattle.iddqd_keys.specs.KeyWalk.{by_key_then_index, SortsWithin}
use Rattle.iddqd_by_order.specs.Ordered.{IsInPlace, IsInSync, IsSortedScan, itself}

module _ {T K : Type 0} (key_of : T → K) (compare : K → K → Ordering) where
  options_alike :
      (x y : Option T)
      → option_cmp compare (option_map key_of x) (option_map key_of y)
      ≡ option_cmp (on key_of compare) (option_map itself x) (option_map itself y)
  options_alike None None = refl
  options_alike None (Some y) = refl
  options_alike (Some x) None = refl
  options_alike (Some x) (Some y) = refl

  module _ (s : Store T) where
    pub indexes_alike :
        (i j : ℕ) → by_key_then_index key_of compare s i j ≡ by_key_then_index itself (on key_of compare) s i j
    indexes_alike i j = ap (λ r. ordering_then r (nat_cmp i j)) (options_alike (get s i) (get s j))

    module _ (order : List ℕ) where
      pub IsInPlace-items : IsInPlace key_of compare s order → IsInPlace itself (on key_of compare) s order
      IsInPlace-items = subst (λ c. IsStrictlySortedBy c order) (λ i a b. indexes_alike a b i)

      pub IsInSync-items : IsInSync key_of compare s order → IsInSync itself (on key_of compare) s order
      IsInSync-items o = record { placed = IsInPlace-items o.placed; apart = o.apart }

      pub IsSortedScan-items : IsSortedScan key_of compare s order → IsSortedScan itself (on key_of compare) s order
      IsSortedScan-items sorted = record { holds = sorted.holds; placed = IsInPlace-items sorted.placed }

      -- and back: indexes that a query of items lists are listed by their keys
      pub SortsWithin-keys :
          (within : K → Bool)
          → SortsWithin itself (on key_of compare) (λ item. within (key_of item)) s order
          → SortsWithin key_of compare within s order
      SortsWithin-keys within sorted = record {
        each = sorted.each;
        placed = subst (λ c. IsStrictlySortedBy c order) (λ i a b. sym (indexes_alike a b) i) sorted.placed;
      }
