-- Live indexes sorted by a key of their items; of equal keys, by index.
use Rattle.std.specs.Prelude.{◌≡◌, ◌≢◌, ◌↔◌, ℕ, Bool, List, Option, Some, None, filter_map}
use Rattle.std.specs.List.{Contains}
use Rattle.std.specs.List.Sorted.{IsStrictlySortedBy}
use Rattle.std.specs.Option.{option_map, option_cmp}
use Rattle.std.specs.Ordering.{nat_cmp, on, then_cmp}
use Rattle.std.specs.declared.cmp.Ordering.{Ordering}
use Rattle.std.specs.declared.cmp.Ordering.TheVariants.{Less}
use Rattle.iddqd.specs.Store.{Store, get}
use Rattle.iddqd_keys.specs.Scan.{IsHit, HasNoHit, passes_by}

module _ {T : Type 0} where
  -- an index with its item, if it has one
  abbrev pub index_with_item : Store T → ℕ → Option (ℕ × T)
  index_with_item s ix = option_map (λ item. (ix, item)) (get s ix)

  -- the live ones among these indexes with their items, in the order of the list
  abbrev pub pairs_at : Store T → List ℕ → List (ℕ × T)
  pairs_at s indexes = filter_map (index_with_item s) indexes

module _ {T K : Type 0} (key_of : T → K) where
  -- the key of the item at an index, if it is live
  abbrev pub key_at : Store T → ℕ → Option K
  key_at s ix = option_map key_of (get s ix)

  module _ (compare : K → K → Ordering) where
    -- how two live indexes compare by the keys of their items and then by index
    abbrev pub by_key_then_index : Store T → ℕ → ℕ → Ordering
    by_key_then_index s = then_cmp (on (key_at s) (option_cmp compare)) nat_cmp

    -- the list is sorted by the keys as they are now; of equal keys, by index
    abbrev pub IsInPlace : Store T → List ℕ → Type 0
    IsInPlace s order = IsStrictlySortedBy (by_key_then_index s) order

    -- i comes before j in this order; a vacant index comes first
    abbrev pub ComesBefore : Store T → ℕ → ℕ → Type 0
    ComesBefore s i j = by_key_then_index s i j ≡ Less

    -- The first hit in this order; `None` if there is no hit.
    abbrev pub IsFirstHit : Store T → (T → Bool) → Option ℕ → Type 0
    IsFirstHit s test None = HasNoHit s test
    IsFirstHit s test (Some ix) = IsHit s test ix × ((j : ℕ) → IsHit s test j → j ≢ ix → ComesBefore s ix j)

    -- The first hit after this index; `None` if no hit comes after it in this order.
    abbrev pub IsNextHit : Store T → (T → Bool) → ℕ → Option ℕ → Type 0
    IsNextHit s test after None = (j : ℕ) → IsHit s test j → ComesBefore s after j → ⊥
    IsNextHit s test after (Some ix) =
        IsHit s test ix × ComesBefore s after ix
        × ((j : ℕ) → IsHit s test j → ComesBefore s after j → j ≢ ix → ComesBefore s ix j)

-- these are exactly the live indexes whose items' keys pass, sorted by key and then by index
pub record SortsWithin
    {T K : Type 0} (key_of : T → K) (compare : K → K → Ordering) (within : K → Bool) (s : Store T) (indexes : List ℕ)
    : Type 0 where
  pub each : (ix : ℕ) → Contains indexes ix ↔ IsHit s (passes_by key_of within) ix
  pub placed : IsInPlace key_of compare s indexes
