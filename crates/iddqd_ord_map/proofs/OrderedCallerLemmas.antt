-- For callers of a map in order: what is left after `retain`, and what an iteration says of keys and of its first item.
use Rattle.std.proofs.Common.{◌≡◌, ◌≢◌, ◌∙◌, ◌≤◌, ◌↔◌, inl, inr, ℕ, Bool, true, List, [], ◌∷◌, map, Contains, filter, get_or, Some, refl, sym, ap, subst, arith, Ordering}
use Rattle.std.specs.Cmp.{IsTotalOrder}
use Rattle.std.specs.List.{slice_get}
use Rattle.std.specs.declared.cmp.Ordering.TheVariants.{Less}
use Rattle.std.proofs.lemmas.Bool.{cond_both}
use Rattle.std.proofs.lemmas.List.Elements.{All-contains, All-contains_itself, All-filter, Contains-append_cases, Contains-append_left, Contains-append_right, Contains-push, Contains-push_cases, filter_passes}
use Rattle.std.specs.Ordering.{on}
use Rattle.iddqd.specs.Store.{Store, get, live_count}
use Rattle.iddqd.proofs.LiveLemmas.{item_at, live_at}
use Rattle.iddqd.proofs.StoreLemmas.{contains_head}
use Rattle.iddqd_by_order.specs.Ordered.{AreLive, IsSortedScan}
use Rattle.iddqd_keys.specs.KeyWalk.{pairs_at}
use Rattle.iddqd_keys.specs.Scan.{itself}
use Rattle.iddqd_map.specs.Map.{MapState}
use Rattle.iddqd_map.specs.Retain.{removed_of}
use Rattle.iddqd_map.proofs.CallerLemmas.{fewer_all}
use Rattle.iddqd_map.proofs.RetainedLemmas.{kept_tested}
use Rattle.iddqd_ord_map.specs.InOrder.{FindsFirst, ListsInOrder}
use Rattle.iddqd_ord_map.specs.KeyOrder.{IsKeyWalk, IsWalkWithin}
use Rattle.iddqd_ord_map.specs.Retain.{RetainsAlong}
use Rattle.iddqd_ord_map.proofs.OrderedEndLemmas.{HasLeastKey-first}

-- no more items than there were
pub retains_along_fewer :
    {F T : Type 0} (ask : F → T → Bool → F → Type 0) (f : F) (old new : MapState T)
    (is_walk : Store T → List (ℕ × T) → Type 0)
    → RetainsAlong is_walk ask f old new
    → live_count new.store ≤ live_count old.store
retains_along_fewer ask f old new is_walk retains =
    subst (λ s. live_count s ≤ live_count old.store) (sym retains.retained.left)
    (fewer_all old.store (removed_of retains.retained.asks))

-- exactly the items that pass a test, if the closure answers by it: `I` holds of each of its states, and there its
-- answer on an item is whether that passes
module _
    {F T : Type 0} (ask : F → T → Bool → F → Type 0) (I : F → Type 0) (test : T → Bool)
    (says : (s : F) (x : T) (b : Bool) (t : F) → I s → ask s x b t → (b ≡ test x) × I t)
  where
    pub RetainsAlong-tested :
        (is_walk : Store T → List (ℕ × T) → Type 0) (f : F) (old new : MapState T)
        → I f
        → RetainsAlong is_walk ask f old new
        → (walk : List (ℕ × T)) × is_walk old.store walk × is_walk new.store (filter (λ p. test p.1) walk)
    RetainsAlong-tested is_walk f old new i retains =
        let to = retains.retained in
        (map (λ a. a.0) to.asks, to.each_once, subst (is_walk new.store) (kept_tested ask I test says f to.asks retains.last i to.were_asked) to.kept)

-- a filtered list has exactly those that pass
contained :
    {X : Type 0} (test : X → Bool) (xs : List X) (x : X)
    → Contains (filter test xs) x
    → Contains xs x × (test x ≡ true)
contained test xs x here = (
  All-contains (Contains xs) (filter test xs) x (All-filter test (Contains xs) xs (All-contains_itself xs)) here,
  All-contains (λ y. test y ≡ true) (filter test xs) x (filter_passes test xs) here,
)

kept :
    {X : Type 0} (test : X → Bool) (xs : List X) (x : X)
    → Contains xs x
    → test x ≡ true
    → Contains (filter test xs) x
kept test [] x here passes = here
kept test (y ∷ xs) x here passes =
    elim (Contains-append_cases (y ∷ []) xs x here) [
      | inl first ↦ elim (Contains-push_cases [] y x first) [
        | inl none ↦ absurd (let within = none.1 in omega arith)
        | inr same ↦
            let passes_too : test y ≡ true = ap test same ∙ passes in
            let head = Contains-append_left (y ∷ []) (filter test xs) y (Contains-push [] y) in
            rw passes_too (subst (Contains (y ∷ filter test xs)) same head)
      ]
      | inr behind ↦
          let later = kept test xs x behind passes in
          cond_both (test y) (y ∷ filter test xs) (filter test xs) (λ l. Contains l x)
          (λ _. Contains-append_right (y ∷ []) (filter test xs) x later)
          (λ _. later)
    ]

-- so of the items along a walk those stay that pass the test
module _ {T K : Type 0} (key_of : T → K) (compare : K → K → Ordering) (old new : Store T) (test : T → Bool)
    (walk : List (ℕ × T))
    (before : IsKeyWalk key_of compare old walk)
    (after : IsKeyWalk key_of compare new (filter (λ p. test p.1) walk))
  where
    pub walked : (ix : ℕ) (item : T) → (get new ix ≡ Some item) ↔ ((get old ix ≡ Some item) × (test item ≡ true))
    walked ix item = (
      λ live.
          let here = (after.live ix item).1 (live, refl) in
          let (there, passes) = contained (λ (p : ℕ × T). test p.1) walk (ix, item) here in
          (((before.live ix item).0 there).0, passes),
      λ (live, passes).
          let there = kept (λ (p : ℕ × T). test p.1) walk (ix, item) ((before.live ix item).1 (live, refl)) passes in
          ((after.live ix item).0 there).0,
    )

-- an iteration over the items that a query lists is one over their keys
pub IsWalkWithin-keys :
    {T K : Type 0} (key_of : T → K) (compare : K → K → Ordering) (within : K → Bool) (s : Store T) (pairs : List (ℕ × T))
    → IsWalkWithin itself (on key_of compare) (λ item. within (key_of item)) s pairs
    → IsWalkWithin key_of compare within s pairs
IsWalkWithin-keys key_of compare within s pairs walk = record { live = walk.live; rising = walk.rising }

-- the pair of the first of these indexes
first_pair :
    {T : Type 0} (s : Store T) (indexes : List ℕ) (ix : ℕ) (item : T) (others : List (ℕ × T))
    → AreLive s indexes
    → (ix, item) ∷ others ≡ pairs_at s indexes
    → (slice_get indexes 0 ≡ Some ix) × (get s ix ≡ Some item)
first_pair s [] ix item others live is = absurd (cc)
first_pair {T} s (j ∷ indexes) ix item others live is =
    let (x, there) = item_at s j (live j (contains_head j indexes)) in
    let pairs : (ix, item) ∷ others ≡ (j, x) ∷ pairs_at s indexes = rw there at is in
    let same : (ix, item) ≡ (j, x) = ap (λ (l : List (ℕ × T)). get_or l 0 (ix, item)) pairs in
    let index : ix ≡ j = ap (λ (p : ℕ × T). p.0) same in
    let value : item ≡ x = ap (λ (p : ℕ × T). p.1) same in
    (ap Some (sym index), subst (λ i. get s i ≡ Some item) (sym index) (there ∙ ap Some (sym value)))

-- no item is less than the first of an iteration over all
module _ {T : Type 0} (order : T → T → Ordering) (s : Store T) where
  all_listed : (indexes : List ℕ) → ListsInOrder order (λ _. true) s indexes → IsSortedScan itself order s indexes
  all_listed indexes listed = record {
    holds = record {
      each = λ ix. (
        λ here. let (item, is, passes) = (listed.hits.each ix).0 here in live_at s ix item is,
        λ live. let (item, is) = item_at s ix live in (listed.hits.each ix).1 (item, is, refl),
      );
      once = listed.hits.once;
    };
    placed = listed.placed;
  }

  pub FindsFirst-least :
      IsTotalOrder order
      → (ix : ℕ) (item : T)
      → FindsFirst order s (Some (ix, item))
      → (get s ix ≡ Some item) × ((j : ℕ) (other : T) → get s j ≡ Some other → order other item ≢ Less)
  FindsFirst-least total ix item (others, first) =
      let scan : IsSortedScan itself order s first.indexes = all_listed first.indexes first.listed in
      let live : AreLive s first.indexes = λ i here.
      let (x, is, passes) = (first.listed.hits.each i).0 here in
      live_at s i x is in
      let (at, is) = first_pair s first.indexes ix item others live first.with_items in
      let (x, there, least) = HasLeastKey-first s first.indexes scan.holds itself order total scan.placed ix at in
      let same : x ≡ item = cc in
      (is, λ j other stands. subst (λ y. order other y ≢ Less) same (least j other stands))
