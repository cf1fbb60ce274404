-- The laws of an index by the order of a key: what keeps it so that it indexes a store.
use Rattle.std.proofs.Common.{◌≡◌, ◌∙◌, ℕ, List, true, Some, sym, subst, Ordering}
use Rattle.std.specs.Cmp.{IsTotalOrder}
use Rattle.std.specs.Ordering.{eq_by_cmp}
use Rattle.iddqd.specs.Store.{Store, get, rebound}
use Rattle.iddqd_order.specs.MapBTreeTable.{Order, HasSameTree, order_of}
use Rattle.iddqd_order.specs.declared.btree_table.gap.Gap.{Gap}
use Rattle.iddqd_order.proofs.GapLemmas.{order-same, place-same, Fits-same}
use Rattle.iddqd_by_order.specs.Ordered.{IsSortedScan}
use Rattle.iddqd_keys.specs.Scan.{AreApart, IsHit}
use Rattle.iddqd_keys.specs.AnyTable.{HasDistinctKeys}
use Rattle.iddqd_by_order.proofs.OrderedHoldsLemmas.{Holds-rebound}
use Rattle.iddqd_by_order.proofs.OrderedPlaceLemmas.{Keeps-rebound}
use Rattle.iddqd_map.specs.KeyIndex.{HaveSameKeys}
use Rattle.iddqd_ord_map.specs.ByOrder.{IsGapFor}
use Rattle.iddqd_ord_map.specs.OrderedIndexing.{Sorts, has_key, alike_in_order}
use Rattle.iddqd_ord_map.specs.SortedScanLaws.{shares_equivalence, unchanged, has_its_key, IsSortedScan-alike}

module _ {T K : Type 0} (key_of : T → K) (compare : K → K → Ordering) where
  pub Sorts-same_tree :
      (s : Store T) (t u : Order)
      → HasSameTree t u
      → Sorts key_of compare s (order_of t)
      → Sorts key_of compare s (order_of u)
  Sorts-same_tree s t u same is = subst (Sorts key_of compare s) (sym (order-same t u same)) is

  pub IsGapFor-same_tree :
      (s : Store T) (t u : Order) (item : T) (gap : Gap)
      → HasSameTree t u
      → IsGapFor key_of compare s t item gap
      → IsGapFor key_of compare s u item gap
  IsGapFor-same_tree s t u item gap same is = record {
    fits = Fits-same t u gap same is.fits;
    vacant = rw (order-same t u same, place-same t u gap same) is.vacant;
  }

  -- a table sorts the items if and only if its list is sorted and no two items share a key
  pub Sorts-scan : (s : Store T) (order : List ℕ) → Sorts key_of compare s order → IsSortedScan key_of compare s order
  Sorts-scan s order is = record { holds = is.held; placed = is.in_sync.placed }

  pub Sorts-apart :
      (s : Store T) (order : List ℕ)
      → IsSortedScan key_of compare s order
      → HasDistinctKeys key_of (eq_by_cmp compare) s
      → Sorts key_of compare s order
  Sorts-apart s order is apart = record { held = is.holds; in_sync = record { placed = is.placed; apart = apart } }

  module _ (total : IsTotalOrder compare) where
    -- the item at a live index is replaced by one with the same key
    pub Sorts-kept :
        (s : Store T) (order : List ℕ)
        → Sorts key_of compare s order
        → (ix : ℕ) (item was : T)
        → get s ix ≡ Some was
        → IsHit s (has_key key_of compare (key_of item)) ix
        → Sorts key_of compare (rebound s ix item) order
    Sorts-kept s order o ix item was live hit = record {
      held = Holds-rebound s order o.held ix item was live;
      in_sync =
          (Keeps-rebound key_of compare total s order ix item was live
          (unchanged key_of compare total s ix item hit)).in_sync o.in_sync;
    }

    -- an item was modified and has the same key
    pub Sorts-modified :
        (s : Store T) (order : List ℕ)
        → Sorts key_of compare s order
        → (ix : ℕ) (item was : T)
        → get s ix ≡ Some was
        → key_of item ≡ key_of was
        → Sorts key_of compare (rebound s ix item) order
    Sorts-modified s order is ix item was live same =
        Sorts-kept s order is ix item was live (has_its_key key_of compare total s ix item was live same)

    -- another store whose items have the same keys
    module _ (s t : Store T) (same : HaveSameKeys (alike_in_order key_of compare) s t) where
      apart_both : AreApart (alike_in_order key_of compare) s → AreApart (alike_in_order key_of compare) t
      apart_both apart i j x y p q like =
          let e = shares_equivalence key_of compare total in
          let (u, p_there, u_like) = same.items_of_t i x p in
          let (v, q_there, v_like) = same.items_of_t j y q in
          let first : alike_in_order key_of compare u y ≡ true = e.congr u x y u_like ∙ like in
          let second : alike_in_order key_of compare u v ≡ true =
          e.symm u v ∙ e.congr v y u v_like ∙ e.symm y u ∙ first in
          apart i j u v p_there q_there second

      pub Sorts-alike : (order : List ℕ) → Sorts key_of compare s order → Sorts key_of compare t order
      Sorts-alike order is =
          Sorts-apart t order (IsSortedScan-alike key_of compare total s t same order (Sorts-scan s order is))
          (apart_both is.in_sync.apart)
