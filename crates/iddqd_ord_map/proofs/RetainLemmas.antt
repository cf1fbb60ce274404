-- What asks along a table leave, where each item that is refused is removed before the next is asked about.
use Rattle.std.proofs.Common.{◌≡◌, ◌≢◌, ◌∙◌, inl, inr, ℕ, List, [], ◌∷◌, ◌++◌, map, filter, cond, not, Bool, true, false, is_some, IsSome, Option, Some, None, refl, sym, ap, subst, Ordering, nat_eq, append-nil}
use Rattle.std.specs.List.{Contains, FoldsTo, IsDistinct, cons_option}
use Rattle.std.specs.Cmp.{IsTotalOrder}
use Rattle.std.proofs.lemmas.Bool.{cond_both, eqb-false}
use Rattle.std.proofs.lemmas.Fn.{FoldsTo-push}
use Rattle.std.proofs.lemmas.List.{map-append, append_assoc}
use Rattle.std.proofs.lemmas.List.Elements.{All-contains, All-contains_itself, All-filter, All-from_recursion, filter-append, filter_map-append, filter_passes, Contains-append_cases}
use Rattle.std.proofs.lemmas.List.Kept.{IsStrictlySortedBy-filter}
use Rattle.std.proofs.lemmas.Map.Keys.{IsDistinct-head, IsDistinct-tail}
use Rattle.iddqd.specs.Store.{Store, IsValid, get, removed}
use Rattle.iddqd.proofs.StoreLemmas.{contains_head, contains_tail, contains_cases, contains_none, IsValid-removed}
use Rattle.iddqd.proofs.LiveLemmas.{item_at, live_at, get-removed_at, get-removed_other}
use Rattle.iddqd_order.proofs.IndexListLemmas.{IsDistinct-filter}
use Rattle.iddqd_keys.specs.Scan.{IsLive}
use Rattle.iddqd_by_hash.proofs.RetainLemmas.{was_there}
use Rattle.iddqd_by_order.specs.Ordered.{AreLive, Holds}
use Rattle.iddqd_ord_map.specs.OrderedIndexing.{Sorts}
use Rattle.iddqd_keys.proofs.KeyWalkLemmas.{IsInPlace-alike, pairs_at-first, pairs_at-last}
use Rattle.iddqd_keys.specs.Removals.{removed_all}
use Rattle.iddqd_map.specs.Retain.{AsksInTurn, kept_of, removed_of}
use Rattle.iddqd_map.proofs.RetainLemmas.{AsksInTurn-everywhere}
use Rattle.iddqd_ord_map.specs.KeyOrder.{IsKeyWalk}
use Rattle.iddqd_keys.specs.KeyWalk.{index_with_item, pairs_at}
use Rattle.iddqd_ord_map.specs.Retain.{AsksAlong, MayAskAlong, RetainsAlongTo}
use Rattle.iddqd_ord_map.proofs.WalkLemmas.{SortsWithin-all, IsWalkWithin-sorted}

-- what passes a test stays where only that is kept
contains_kept : (t : ℕ → Bool) (xs : List ℕ) (j : ℕ) → Contains xs j → t j ≡ true → Contains (filter t xs) j
contains_kept t [] j here passes = here
contains_kept t (x ∷ xs) j here passes = elim (contains_cases x j xs here) [
  | inl same ↦
      let kept : t x ≡ true = ap t same ∙ passes in
      rw kept (subst (Contains (x ∷ filter t xs)) same (contains_head x (filter t xs)))
  | inr there ↦
      let later = contains_kept t xs j there passes in
      cond_both (t x) (x ∷ filter t xs) (filter t xs) (λ l. Contains l j)
      (λ _. contains_tail x j (filter t xs) later) (λ _. later)
]

module _ {T : Type 0} where
  removed_all-push :
      (s : Store T) (ixs : List ℕ) (ix : ℕ)
      → removed_all s (ixs ++ ix ∷ []) ≡ removed (removed_all s ixs) ix
  removed_all-push s [] ix = refl
  removed_all-push s (at ∷ ixs) ix = removed_all-push (removed s at) ixs ix

  kept-push :
      (asks : List ((ℕ × T) × Bool)) (a : (ℕ × T) × Bool)
      → kept_of (asks ++ a ∷ []) ≡ kept_of asks ++ kept_of (a ∷ [])
  kept-push asks a =
      ap (map (λ (a : (ℕ × T) × Bool). a.0)) (filter-append (λ (a : (ℕ × T) × Bool). a.1) asks (a ∷ []))
      ∙ map-append (λ (a : (ℕ × T) × Bool). a.0) _ _

  refused-push :
      (asks : List ((ℕ × T) × Bool)) (a : (ℕ × T) × Bool)
      → removed_of (asks ++ a ∷ []) ≡ removed_of asks ++ removed_of (a ∷ [])
  refused-push asks a =
      ap (map (λ (a : (ℕ × T) × Bool). a.0.0)) (filter-append (λ (a : (ℕ × T) × Bool). not a.1) asks (a ∷ []))
      ∙ map-append (λ (a : (ℕ × T) × Bool). a.0.0) _ _

  -- the same pairs, where the indexes have what they had
  pairs_at-same :
      (s t : Store T) (xs : List ℕ)
      → ((j : ℕ) → Contains xs j → get t j ≡ get s j)
      → pairs_at t xs ≡ pairs_at s xs
  pairs_at-same s t [] same = refl
  pairs_at-same s t (x ∷ xs) same =
      let rest = pairs_at-same s t xs (λ j here. same j (contains_tail x j xs here)) in
      rw (same x (contains_head x xs)) (ap (cons_option (index_with_item s x)) rest)

  -- indexes without an item give no pair
  pairs_at-live : (s : Store T) (xs : List ℕ) → pairs_at s (filter (λ ix. is_some (get s ix)) xs) ≡ pairs_at s xs
  pairs_at-live s [] = refl
  pairs_at-live s (x ∷ xs) = by (get s x) refl (pairs_at-live s xs)
    where
      left : List ℕ
      left = filter (λ ix. is_some (get s ix)) xs

      by :
          (o : Option T)
          → get s x ≡ o
          → pairs_at s left ≡ pairs_at s xs
          → pairs_at s (cond (is_some (get s x)) (x ∷ left) left) ≡ pairs_at s (x ∷ xs)
      by None is rest = rw is rest
      by (Some item) is rest =
          ap (λ o. pairs_at s (cond (is_some o) (x ∷ left) left)) is
          ∙ pairs_at-first s (x ∷ left) left x item refl is ∙ ap (λ l. (x, item) ∷ l) rest
          ∙ sym (pairs_at-first s (x ∷ xs) xs x item refl is)

module _ {F T : Type 0} (takes : F → T → Type 0) (ask : F → T → Bool → F → Type 0) where
  -- of the indexes in a table those before the ones to come were asked about, and the ones to come are as they were
  pub record Retaining (f : F) (old now : Store T) (order to_come : List ℕ) (state : F) : Type 0 where
    pub done : List ℕ
    pub whole : order ≡ done ++ to_come
    pub once : IsDistinct nat_eq to_come
    pub apart : (j : ℕ) → Contains done j → Contains to_come j → ⊥
    pub asks : List ((ℕ × T) × Bool)
    pub each_once : map (λ a. a.0) asks ≡ pairs_at old done
    pub were_asked : FoldsTo (λ p a q. ask p a.0.1 a.1 q) f asks state
    pub kept : kept_of asks ≡ pairs_at now done
    pub left : now ≡ removed_all old (removed_of asks)
    pub rest : (j : ℕ) → Contains to_come j → get now j ≡ get old j
    pub live : AreLive old to_come
    pub valid : IsValid now
    pub can : AsksInTurn takes ask state (map (λ (pair : ℕ × T). pair.1) (pairs_at old to_come))

  pub Retaining-none :
      (f : F) (old : Store T) (order to_come : List ℕ)
      → to_come ≡ order
      → IsValid old
      → Holds old order
      → AsksInTurn takes ask f (map (λ (pair : ℕ × T). pair.1) (pairs_at old order))
      → Retaining f old old order to_come f
  Retaining-none f old order to_come is valid held can = rw is (record {
    done = [];
    whole = refl;
    once = held.once;
    apart = λ j here _. contains_none j here;
    asks = [];
    each_once = refl;
    were_asked = refl;
    kept = refl;
    left = refl;
    rest = λ j here. refl;
    live = λ j here. (held.each j).0 here;
    valid = valid;
    can = can;
  })

  -- all were asked about
  pub Retaining-all :
      (f : F) (old now : Store T) (order to_come : List ℕ) (state : F)
      → Retaining f old now order to_come state
      → to_come ≡ []
      → RetainsAlongTo (λ s pairs. pairs ≡ pairs_at s order) ask f old now state
  Retaining-all f old now order to_come state w none =
      let all : order ≡ w.done = w.whole ∙ ap (λ l. w.done ++ l) none ∙ append-nil w.done in
      record {
        asks = w.asks;
        each_once = w.each_once ∙ ap (pairs_at old) (sym all);
        were_asked = w.were_asked;
        kept = w.kept ∙ ap (pairs_at now) (sym all);
        left = w.left;
      }

  module _ (f : F) (old now : Store T) (order all to_come : List ℕ) (ix : ℕ) (state : F)
      (given : all ≡ ix ∷ to_come) (v : Retaining f old now order all state) where
    w : Retaining f old now order (ix ∷ to_come) state
    w = subst (λ l. Retaining f old now order l state) given v

    -- the next index is live
    pub live-next : IsLive now ix
    live-next = subst IsSome (sym (w.rest ix (contains_head ix to_come))) (w.live ix (contains_head ix to_come))

    is_next : (j : ℕ) → Contains to_come j → j ≢ ix
    is_next j here same =
        let apart = All-from_recursion (λ y. nat_eq ix y ≡ false) to_come (IsDistinct-head nat_eq ix to_come w.once) in
        eqb-false ix j (All-contains (λ y. nat_eq ix y ≡ false) to_come j apart here) (sym same)

    is_other : (j : ℕ) → Contains w.done j → j ≢ ix
    is_other j here same = w.apart j here (subst (Contains (ix ∷ to_come)) (sym same) (contains_head ix to_come))

    done_apart : (j : ℕ) → Contains (w.done ++ ix ∷ []) j → Contains to_come j → ⊥
    done_apart j here there = elim (Contains-append_cases w.done (ix ∷ []) j here) [
      | inl was ↦ w.apart j was (contains_tail ix j to_come there)
      | inr last ↦ elim (contains_cases ix j [] last) [
        | inl same ↦ is_next j there (sym same)
        | inr nowhere ↦ contains_none j nowhere
      ]
    ]

    module _ (item : T) (here : get now ix ≡ Some item) where
      was_here : get old ix ≡ Some item
      was_here = sym (w.rest ix (contains_head ix to_come)) ∙ here

      can-next : AsksInTurn takes ask state (item ∷ map (λ (pair : ℕ × T). pair.1) (pairs_at old to_come))
      can-next =
          subst (λ l. AsksInTurn takes ask state (map (λ (pair : ℕ × T). pair.1) l))
          (pairs_at-first old (ix ∷ to_come) to_come ix item refl was_here) w.can

      -- its item may be asked about
      pub takes-next : takes state item
      takes-next = can-next.0

      pairs-more :
          (s : Store T)
          → get s ix ≡ Some item
          → pairs_at s (w.done ++ ix ∷ []) ≡ pairs_at s w.done ++ (ix, item) ∷ []
      pairs-more s is = pairs_at-last s (w.done ++ ix ∷ []) w.done ix item refl is

      whole-more : order ≡ (w.done ++ ix ∷ []) ++ to_come
      whole-more = w.whole ∙ sym (append_assoc w.done (ix ∷ []) to_come)

      each-more :
          (b : Bool)
          → map (λ (a : (ℕ × T) × Bool). a.0) (w.asks ++ ((ix, item), b) ∷ []) ≡ pairs_at old (w.done ++ ix ∷ [])
      each-more b =
          map-append (λ (a : (ℕ × T) × Bool). a.0) w.asks (((ix, item), b) ∷ [])
          ∙ ap (λ l. l ++ (ix, item) ∷ []) w.each_once ∙ sym (pairs-more old was_here)

      -- it was answered true
      pub Retaining-kept : (next : F) → ask state item true next → Retaining f old now order to_come next
      Retaining-kept next asked = record {
        done = w.done ++ ix ∷ [];
        whole = whole-more;
        once = IsDistinct-tail nat_eq ix to_come w.once;
        apart = done_apart;
        asks = w.asks ++ ((ix, item), true) ∷ [];
        each_once = each-more true;
        were_asked =
            FoldsTo-push (λ p a q. ask p a.0.1 a.1 q) f w.asks state ((ix, item), true) next w.were_asked asked;
        kept = kept-push w.asks ((ix, item), true) ∙ ap (λ l. l ++ (ix, item) ∷ []) w.kept ∙ sym (pairs-more now here);
        left = w.left ∙ ap (removed_all old) (sym (refused-push w.asks ((ix, item), true) ∙ append-nil _));
        rest = λ j there. w.rest j (contains_tail ix j to_come there);
        live = λ j there. w.live j (contains_tail ix j to_come there);
        valid = w.valid;
        can = can-next.1 true next asked;
      }

      left-removed : pairs_at (removed now ix) (w.done ++ ix ∷ []) ≡ pairs_at now w.done
      left-removed =
          let gone : pairs_at (removed now ix) (ix ∷ []) ≡ [] = rw (get-removed_at now ix item here) refl in
          filter_map-append (index_with_item (removed now ix)) w.done (ix ∷ [])
          ∙ ap (λ l. pairs_at (removed now ix) w.done ++ l) gone ∙ append-nil _
          ∙ pairs_at-same now (removed now ix) w.done (λ j there. get-removed_other now ix j (is_other j there))

      -- it was answered false, and removed
      pub Retaining-removed :
          (after : Store T) (next : F)
          → after ≡ removed now ix
          → ask state item false next
          → Retaining f old after order to_come next
      Retaining-removed after next gone asked = rw gone (record {
        done = w.done ++ ix ∷ [];
        whole = whole-more;
        once = IsDistinct-tail nat_eq ix to_come w.once;
        apart = done_apart;
        asks = w.asks ++ ((ix, item), false) ∷ [];
        each_once = each-more false;
        were_asked =
            FoldsTo-push (λ p a q. ask p a.0.1 a.1 q) f w.asks state ((ix, item), false) next w.were_asked asked;
        kept = kept-push w.asks ((ix, item), false) ∙ append-nil _ ∙ w.kept ∙ sym left-removed;
        left =
            ap (λ s. removed s ix) w.left ∙ sym (removed_all-push old (removed_of w.asks) ix)
            ∙ ap (removed_all old) (sym (refused-push w.asks ((ix, item), false)));
        rest = λ j there. get-removed_other now ix j (is_next j there) ∙ w.rest j (contains_tail ix j to_come there);
        live = λ j there. w.live j (contains_tail ix j to_come there);
        valid = IsValid-removed now ix item w.valid here;
        can = can-next.1 false next asked;
      })

-- what is left where the items without which the table is were removed
module _ {T K : Type 0} (key_of : T → K) (compare : K → K → Ordering) (total : IsTotalOrder compare)
    (old new : Store T) (order : List ℕ) (o : Sorts key_of compare old order)
    (were : (j : ℕ) (item : T) → get new j ≡ Some item → get old j ≡ Some item) where
  abbrev has_item : ℕ → Bool
  has_item ix = is_some (get new ix)

  abbrev left_over : List ℕ
  left_over = filter has_item order

  listed_live : (ix : ℕ) → Contains left_over ix → Contains order ix × IsLive new ix
  listed_live ix here = (
    All-contains (Contains order) left_over ix
        (All-filter has_item (Contains order) order (All-contains_itself order)) here,
    All-contains (λ j. has_item j ≡ true) left_over ix (filter_passes has_item order) here,
  )

  same_there : (ix : ℕ) → Contains left_over ix → get new ix ≡ get old ix
  same_there ix here =
      let (item, is) = item_at new ix (listed_live ix here).1 in
      is ∙ sym (were ix item is)

  pub Sorts-left : Sorts key_of compare new left_over
  Sorts-left = record {
    held = record {
      each = λ ix. (
        λ here. (listed_live ix here).1,
        λ live.
            let (item, is) = item_at new ix live in
            let listed = (o.held.each ix).1 (live_at old ix item (were ix item is)) in
            contains_kept has_item order ix listed (ap is_some is),
      );
      once = IsDistinct-filter has_item order o.held.once;
    };
    in_sync = record {
      placed =
          IsInPlace-alike key_of compare total old new left_over same_there
          (IsStrictlySortedBy-filter _ has_item order o.in_sync.placed);
      apart = λ i j x y p q same. o.in_sync.apart i j x y (were i x p) (were j y q) same;
    };
  }

  -- what is left of its pairs
  pub IsKeyWalk-left : (pairs : List (ℕ × T)) → pairs ≡ pairs_at new order → IsKeyWalk key_of compare new pairs
  IsKeyWalk-left pairs is =
      subst (IsKeyWalk key_of compare new) (pairs_at-live new order ∙ sym is)
      (IsWalkWithin-sorted key_of compare new (λ _. true) left_over
      (SortsWithin-all key_of compare new left_over Sorts-left) Sorts-left.in_sync.apart)

-- asks along a table that sorts the items were asked in the order of the keys
module _ {F T K : Type 0} (key_of : T → K) (compare : K → K → Ordering) (total : IsTotalOrder compare)
    (ask : F → T → Bool → F → Type 0) (f last : F) (old new : Store T) (order left : List ℕ)
    (o : Sorts key_of compare old order)
    (r : RetainsAlongTo (λ s pairs. pairs ≡ pairs_at s order) ask f old new last) where
  were : (j : ℕ) (item : T) → get new j ≡ Some item → get old j ≡ Some item
  were j item is = was_there old (removed_of r.asks) j item (subst (λ s. get s j ≡ Some item) r.left is)

  pub Sorts-retained : left ≡ filter (λ ix. is_some (get new ix)) order → Sorts key_of compare new left
  Sorts-retained is = subst (Sorts key_of compare new) (sym is) (Sorts-left key_of compare total old new order o were)

  pub RetainsAlongTo-keys : RetainsAlongTo (IsKeyWalk key_of compare) ask f old new last
  RetainsAlongTo-keys = record {
    asks = r.asks;
    each_once =
        subst (IsKeyWalk key_of compare old) (sym r.each_once)
        (IsWalkWithin-sorted key_of compare old (λ _. true) order (SortsWithin-all key_of compare old order o)
        o.in_sync.apart);
    were_asked = r.were_asked;
    kept = IsKeyWalk-left key_of compare total old new order o were (kept_of r.asks) r.kept;
    left = r.left;
  }

-- what may be called along a walk may be called on the items of a table that sorts them
module _ {F T : Type 0} (takes : F → T → Type 0) (ask : F → T → Bool → F → Type 0) where
  pub MayAskAlong-asks :
      (is_walk : Store T → List (ℕ × T) → Type 0) (f : F) (s : Store T)
      → MayAskAlong is_walk takes ask f s
      → AsksAlong is_walk takes ask f s
  MayAskAlong-asks is_walk f s may =
      may (λ asks. record {
        at = λ pairs is. AsksInTurn-everywhere takes ask f (map (λ (pair : ℕ × T). pair.1) pairs) asks;
      })

  pub AsksAlong-sorted :
      {K : Type 0} (key_of : T → K) (compare : K → K → Ordering) (f : F) (s : Store T) (order : List ℕ)
      → Sorts key_of compare s order
      → AsksAlong (IsKeyWalk key_of compare) takes ask f s
      → AsksInTurn takes ask f (map (λ (pair : ℕ × T). pair.1) (pairs_at s order))
  AsksAlong-sorted key_of compare f s order o asks =
      asks.at (pairs_at s order)
      (IsWalkWithin-sorted key_of compare s (λ _. true) order (SortsWithin-all key_of compare s order o)
      o.in_sync.apart)
