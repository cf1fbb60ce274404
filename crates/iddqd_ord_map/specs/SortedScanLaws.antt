-- The laws of an index by the order of a key, whether several items may have one key or not: what keeps its list
-- sorted.
use Rattle.std.proofs.Common.{◌≡◌, ◌∙◌, ◌↔◌, ℕ, List, true, Some, sym, subst, Ordering}
use Rattle.std.specs.Cmp.{IsTotalOrder, IsEquivalence, Equal-is, eq_by_cmp_equiv}
use Rattle.std.specs.Option.{option_cmp}
use Rattle.std.specs.Ordering.{eq_by_cmp, on}
use Rattle.std.specs.declared.cmp.Ordering.TheVariants.{Equal}
use Rattle.std.proofs.lemmas.Cmp.{tied_itself}
use Rattle.iddqd.specs.Store.{Store, get, rebound}
use Rattle.iddqd.proofs.LiveLemmas.{item_at, live_at}
use Rattle.iddqd_order.specs.MapBTreeTable.{Order, HasSameTree, order_of}
use Rattle.iddqd_order.proofs.GapLemmas.{order-same}
use Rattle.iddqd_by_order.specs.Ordered.{IsSortedScan, key_at}
use Rattle.iddqd_keys.specs.Scan.{IsHit, IsLive}
use Rattle.iddqd_keys.specs.AnyTable.{ChangesAt}
use Rattle.iddqd_by_order.proofs.OrderedHoldsLemmas.{Holds-rebound}
use Rattle.iddqd_by_order.proofs.OrderedPlaceLemmas.{Keeps-rebound}
use Rattle.iddqd_keys.proofs.KeyWalkLemmas.{IsInPlace-tied}
use Rattle.iddqd_map.specs.KeyIndex.{HaveSameKeys}
use Rattle.iddqd_ord_map.specs.OrderedIndexing.{has_key, alike_in_order}

module _ {T K : Type 0} (key_of : T → K) (compare : K → K → Ordering) where
  pub IsSortedScan-same_tree :
      (s : Store T) (t u : Order)
      → HasSameTree t u
      → IsSortedScan key_of compare s (order_of t)
      → IsSortedScan key_of compare s (order_of u)
  IsSortedScan-same_tree s t u same is = subst (IsSortedScan key_of compare s) (sym (order-same t u same)) is

  module _ (total : IsTotalOrder compare) where
    -- items with the same key compare Equal by it
    pub tied_by_key : (x y : T) → key_of x ≡ key_of y → on key_of compare x y ≡ Equal
    tied_by_key x y same = subst (λ k. compare (key_of x) k ≡ Equal) same (tied_itself total (key_of x))

    pub shares_equivalence : IsEquivalence (alike_in_order key_of compare)
    shares_equivalence =
        let e = eq_by_cmp_equiv total in
        record {
          refl = λ x. e.refl (key_of x);
          symm = λ x y. e.symm (key_of x) (key_of y);
          congr = λ x y z. e.congr (key_of x) (key_of y) (key_of z);
        }

    -- an index that has an item with the key has none with another key
    pub unchanged :
        (s : Store T) (ix : ℕ) (item : T)
        → IsHit s (has_key key_of compare (key_of item)) ix
        → ChangesAt key_of (eq_by_cmp compare) s ix item
        → ⊥
    unchanged s ix item hit other =
        let (there, is, same) = hit in
        let one : Some there ≡ Some other.0 = sym is ∙ other.1 in
        let differs = other.2 in
        cc

    -- the item at a live index is replaced by one with the same key
    pub IsSortedScan-kept :
        (s : Store T) (order : List ℕ)
        → IsSortedScan key_of compare s order
        → (ix : ℕ) (item was : T)
        → get s ix ≡ Some was
        → IsHit s (has_key key_of compare (key_of item)) ix
        → IsSortedScan key_of compare (rebound s ix item) order
    IsSortedScan-kept s order o ix item was live hit = record {
      holds = Holds-rebound s order o.holds ix item was live;
      placed = (Keeps-rebound key_of compare total s order ix item was live (unchanged s ix item hit)).placed o.placed;
    }

    -- an item that has its key still
    pub has_its_key :
        (s : Store T) (ix : ℕ) (item was : T)
        → get s ix ≡ Some was
        → key_of item ≡ key_of was
        → IsHit s (has_key key_of compare (key_of item)) ix
    has_its_key s ix item was live same = (
      was,
      live,
      subst (λ k. eq_by_cmp compare k (key_of was) ≡ true) (sym same) ((eq_by_cmp_equiv total).refl (key_of was)),
    )

    pub IsSortedScan-modified :
        (s : Store T) (order : List ℕ)
        → IsSortedScan key_of compare s order
        → (ix : ℕ) (item was : T)
        → get s ix ≡ Some was
        → key_of item ≡ key_of was
        → IsSortedScan key_of compare (rebound s ix item) order
    IsSortedScan-modified s order is ix item was live same =
        IsSortedScan-kept s order is ix item was live (has_its_key s ix item was live same)

    -- another store whose items have the same keys
    module _ (s t : Store T) (same : HaveSameKeys (alike_in_order key_of compare) s t) where
      live_both : (ix : ℕ) → IsLive s ix ↔ IsLive t ix
      live_both ix = (
        λ here.
            let (x, is) = item_at s ix here in
            let (y, there, like) = same.items_of_s ix x is in
            live_at t ix y there,
        λ here.
            let (y, is) = item_at t ix here in
            let (x, there, like) = same.items_of_t ix y is in
            live_at s ix x there,
      )

      tied : (ix : ℕ) → IsLive s ix → option_cmp compare (key_at key_of t ix) (key_at key_of s ix) ≡ Equal
      tied ix here =
          let (x, is) = item_at s ix here in
          let (y, there, like) = same.items_of_s ix x is in
          rw (is, there) ((Equal-is _).0 (shares_equivalence.symm y x ∙ like))

      pub IsSortedScan-alike :
          (order : List ℕ)
          → IsSortedScan key_of compare s order
          → IsSortedScan key_of compare t order
      IsSortedScan-alike order is = record {
        holds = record {
          each = λ ix. (
            λ here. (live_both ix).0 ((is.holds.each ix).0 here),
            λ live. (is.holds.each ix).1 ((live_both ix).1 live),
          );
          once = is.holds.once;
        };
        placed = IsInPlace-tied key_of compare total s t order (λ j here. tied j ((is.holds.each j).0 here)) is.placed;
      }
