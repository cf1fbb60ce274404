-- For reads in order at a place: what an iteration over listed indexes gives.
use Rattle.std.proofs.Common.{◌≡◌, ◌∙◌, ◌↔◌, ◌∷◌, ⊎_elim, ℕ, Bool, false, is_some, true, List, [], Option, Some, None, length, refl, sym, ap, subst, Contains, Ordering}
use Rattle.std.specs.Option.{option_map}
use Rattle.std.proofs.lemmas.List.Elements.{Contains-append_right}
use Rattle.std.specs.declared.ops.Bound.TheVariants.{Included}
use Rattle.iddqd.specs.Store.{Store, get, live_count}
use Rattle.iddqd.proofs.StoreLemmas.{contains_cases, contains_head, contains_none}
use Rattle.iddqd.proofs.LiveLemmas.{item_at, live_at}
use Rattle.iddqd_by_order.specs.Ordered.{AreLive, IsSortedScan}
use Rattle.iddqd_by_order.proofs.OrderedCountLemmas.{length-held}
use Rattle.iddqd_keys.specs.KeyWalk.{IsFirstHit, pairs_at}
use Rattle.iddqd_keys.specs.OrderedQuery.{is_between, is_equal}
use Rattle.iddqd_keys.specs.Scan.{HasNoHit}
use Rattle.iddqd_keys.proofs.KeyWalkLemmas.{between_equal, length-pairs_at}
use Rattle.iddqd_map.specs.Map.{MapState, RemovesAt}
use Rattle.iddqd_map.specs.Ranges.{itself}
use Rattle.iddqd_ord_map.specs.InOrder.{ListsInOrder, IteratesInOrder, FindsFirst, FindsLast, PopsFirst, PopsLast}

module _ {T : Type 0} (order : T → T → Ordering) (s : Store T) where
  pub AreLive-listed : (within : T → Bool) (indexes : List ℕ) → ListsInOrder order within s indexes → AreLive s indexes
  AreLive-listed within indexes listed ix here =
      let (item, is, passes) = (listed.hits.each ix).0 here in
      live_at s ix item is

  pub IteratesInOrder-listed :
      (within : T → Bool) (indexes : List ℕ)
      → ListsInOrder order within s indexes
      → IteratesInOrder order within s (pairs_at s indexes)
  IteratesInOrder-listed within indexes listed = record { indexes = indexes; listed = listed; with_items = refl }

  -- a sorted scan has all items
  pub ListsInOrder-scan :
      (indexes : List ℕ) → IsSortedScan itself order s indexes → ListsInOrder order (λ _. true) s indexes
  ListsInOrder-scan indexes sorted = record {
    hits = record {
      each = λ ix. (
        λ here. let (item, is) = item_at s ix ((sorted.holds.each ix).0 here) in (item, is, refl),
        λ (item, is, passes). (sorted.holds.each ix).1 (live_at s ix item is),
      );
      once = sorted.holds.once;
    };
    placed = sorted.placed;
  }

  pub length-scan :
      (indexes : List ℕ) → IsSortedScan itself order s indexes → length (pairs_at s indexes) ≡ live_count s
  length-scan indexes sorted =
      length-pairs_at s indexes (AreLive-listed (λ _. true) indexes (ListsInOrder-scan indexes sorted))
      ∙ length-held s indexes sorted.holds

  -- between a query and itself are the items at which it is Equal
  pub ListsInOrder-group :
      (comparing : T → Ordering) (indexes : List ℕ)
      → ListsInOrder order (is_between (Included comparing) (Included comparing)) s indexes
      → ListsInOrder order (is_equal comparing) s indexes
  ListsInOrder-group comparing indexes =
      subst (λ within. ListsInOrder order within s indexes) (between_equal comparing)

  -- and so of the pairs
  pub IteratesInOrder-group :
      (comparing : T → Ordering) (pairs : List (ℕ × T))
      → IteratesInOrder order (is_between (Included comparing) (Included comparing)) s pairs
      → IteratesInOrder order (is_equal comparing) s pairs
  IteratesInOrder-group comparing pairs =
      subst (λ within. IteratesInOrder order within s pairs) (between_equal comparing)

  -- a look-up for the first of the items that pass misses exactly where none passes
  pub first_misses :
      {A : Type 0} (test : T → Bool) (r : Option (ℕ × A))
      → IsFirstHit itself order s test (option_map (λ p. p.0) r)
      → (is_some r ≡ false) ↔ HasNoHit s test
  first_misses test None none = (λ _. none, λ _. refl)
  first_misses test (Some found) (hit, first) = (λ is. absurd (cc), λ none. absurd (none found.0 hit))

-- what an index is paired with is its item
paired_item :
    {T : Type 0} (s : Store T) (indexes : List ℕ) (ix : ℕ) (item : T)
    → Contains (pairs_at s indexes) (ix, item)
    → get s ix ≡ Some item
paired_item s [] ix item here = absurd (contains_none (ix, item) here)
paired_item {T} s (j ∷ indexes) ix item here =
    elim (get s j) as (λ o. get s j ≡ o → Contains (pairs_at s (j ∷ indexes)) (ix, item) → get s ix ≡ Some item) [
      | None ↦ λ is there. paired_item s indexes ix item (rw is at there)
      | Some x ↦ λ is there. ⊎_elim
          (λ same. let index : j ≡ ix = ap (λ (p : ℕ × T). p.0) same in
          let value : x ≡ item = ap (λ (p : ℕ × T). p.1) same in
          subst (λ i. get s i ≡ Some item) index (is ∙ ap Some value))
          (λ rest. paired_item s indexes ix item rest)
          (contains_cases (j, x) (ix, item) (pairs_at s indexes) (rw is at there))
    ] refl here

module _ {T : Type 0} (order : T → T → Ordering) (old new : MapState T) (ix : ℕ) (item : T) (result : Option T)
    (value : result ≡ get old.store ix) (removes : RemovesAt old ix result new) where
  pub PopsFirst-removed : FindsFirst order old.store (Some (ix, item)) → PopsFirst order old result new
  PopsFirst-removed (others, first) =
      let here = subst (λ l. Contains l (ix, item)) first.with_items (contains_head (ix, item) others) in
      let same : result ≡ Some item = value ∙ paired_item old.store first.indexes ix item here in
      let did = subst (λ r. RemovesAt old ix r new) same removes in
      subst (λ r. PopsFirst order old r new) (sym same) (ix, (others, first), did.1, did.2)

  pub PopsLast-removed : FindsLast order old.store (Some (ix, item)) → PopsLast order old result new
  PopsLast-removed (others, last) =
      let here = subst (λ l. Contains l (ix, item)) last.with_items (Contains-append_right others ((ix, item) ∷ []) (ix, item) (contains_head (ix, item) [])) in
      let same : result ≡ Some item = value ∙ paired_item old.store last.indexes ix item here in
      let did = subst (λ r. RemovesAt old ix r new) same removes in
      subst (λ r. PopsLast order old r new) (sym same) (ix, (others, last), did.1, did.2)
