-- For callers: lists of live indexes in the order of a key, and the first of them whose items' keys are within.
use Rattle.std.proofs.Common.{◌≡◌, ◌≢◌, ◌++◌, ◌∙◌, ◌+◌, ◌<◌, ◌&&◌, inl, inr, ℕ, Bool, not, List, [], ◌∷◌, length, get_or, Option, Some, None, option_map, MatchOption, refl, sym, ap, subst, Ordering, arith}
use Rattle.std.specs.Cmp.{IsTotalOrder}
use Rattle.std.specs.Cmp.Lexicographic.{options_total}
use Rattle.std.specs.List.{Contains}
use Rattle.std.specs.List.Sorted.{IsStrictlySortedBy}
use Rattle.std.specs.Option.{option_cmp}
use Rattle.std.specs.Ordering.{nat_cmp, ordering_then, is_eq, is_lt, is_gt}
use Rattle.std.specs.declared.cmp.Ordering.TheVariants.{Less, Equal, Greater}
use Rattle.std.specs.declared.ops.Bound.TheVariants.{Included}
use Rattle.std.proofs.lemmas.Bool.{cases_eq}
use Rattle.std.proofs.lemmas.Cmp.{alike_right, tied_itself, then_total, on_total, nat_cmp_total}
use Rattle.std.proofs.lemmas.List.Elements.{All-contains, All-from_recursion, recursion_from_All, Contains-append_left, Contains-append_right, Contains-get_or, Contains-push_cases, filter_map-append}
use Rattle.std.proofs.lemmas.List.{length_push}
use Rattle.std.proofs.lemmas.Map.Keys.{Less-from_sorted, sorted_from_all_adjacent}
use Rattle.iddqd.specs.Store.{Store, get, removed}
use Rattle.iddqd.proofs.LiveLemmas.{get-removed_other, item_at}
use Rattle.iddqd.proofs.StoreLemmas.{contains_head, contains_tail, contains_cases, contains_none}
use Rattle.iddqd_keys.specs.KeyWalk.{index_with_item, pairs_at, key_at, by_key_then_index, IsInPlace, ComesBefore, IsFirstHit, SortsWithin}
use Rattle.iddqd_keys.specs.OrderedQuery.{is_between, is_equal}
use Rattle.iddqd_keys.specs.Scan.{IsLive, IsHit, HasNoHit, passes_by}
use Rattle.iddqd_keys.proofs.ScanLemmas.{live_before}

module _ {T K : Type 0} (key_of : T → K) (compare : K → K → Ordering) (total : IsTotalOrder compare) where
  pub totals : (s : Store T) → IsTotalOrder (by_key_then_index key_of compare s)
  totals s = then_total (on_total (key_at key_of s) (options_total total)) nat_cmp_total

  -- what is in place is so over every store whose keys there compare Equal with those
  pub IsInPlace-tied :
      (s t : Store T) (order : List ℕ)
      → ((j : ℕ) → Contains order j → option_cmp compare (key_at key_of t j) (key_at key_of s j) ≡ Equal)
      → IsInPlace key_of compare s order
      → IsInPlace key_of compare t order
  IsInPlace-tied s t order ties placed =
      let o = options_total total in
      sorted_from_all_adjacent (totals t) order 0 (λ k within.
      let i = get_or order k 0 in
      let j = get_or order (k + 1) 0 in
      let left = o.congr (key_at key_of t i) (key_at key_of s i) (key_at key_of t j) (ties i (Contains-get_or order k 0 (omega arith))) in
      let right = alike_right o (key_at key_of t j) (key_at key_of s j) (key_at key_of s i) (ties j (Contains-get_or order (k + 1) 0 within)) in
      ap (λ r. ordering_then r (nat_cmp i j)) (left ∙ right)
      ∙ Less-from_sorted _ order k (k + 1) 0 placed (omega arith) within)

  -- and over every store that gives the same items
  pub IsInPlace-alike :
      (s t : Store T) (order : List ℕ)
      → ((j : ℕ) → Contains order j → get t j ≡ get s j)
      → IsInPlace key_of compare s order
      → IsInPlace key_of compare t order
  IsInPlace-alike s t order same = IsInPlace-tied s t order (λ j here.
      subst (λ o. option_cmp compare (option_map key_of o) (key_at key_of s j) ≡ Equal) (sym (same j here)) (tied_itself (options_total total) (key_at key_of s j)))

-- what a walk over live indexes with their items has left
module _ {T : Type 0} (s : Store T) where
  -- what a walk that had these indexes left keeps once it gives the first one, or the last one
  pub record Gave (ix : ℕ) (left : List ℕ) : Type 0 where
    pub live : IsLive s ix
    pub others_live : (j : ℕ) → Contains left j → IsLive s j

  module _ (all left : List ℕ) (ix : ℕ) (live : (j : ℕ) → Contains all j → IsLive s j) where
    pub Gave-first : all ≡ ix ∷ left → Gave ix left
    Gave-first is = record {
      live = live ix (subst (λ xs. Contains xs ix) (sym is) (contains_head ix left));
      others_live = λ j here. live j (subst (λ xs. Contains xs j) (sym is) (contains_tail ix j left here));
    }

    pub Gave-last : all ≡ left ++ ix ∷ [] → Gave ix left
    Gave-last is = record {
      live = live ix (subst (λ xs. Contains xs ix) (sym is) (Contains-append_right left (ix ∷ []) ix (contains_head ix [])));
      others_live = λ j here. live j (subst (λ xs. Contains xs j) (sym is) (Contains-append_left left (ix ∷ []) j here));
    }

  pub AreLive-none : (left : List ℕ) → left ≡ [] → (j : ℕ) → Contains left j → IsLive s j
  AreLive-none left is j here = absurd (contains_none j (subst (λ xs. Contains xs j) is here))

  pub pairs_at-first :
      (all left : List ℕ) (ix : ℕ) (item : T)
      → all ≡ ix ∷ left
      → get s ix ≡ Some item
      → pairs_at s all ≡ (ix, item) ∷ pairs_at s left
  pairs_at-first all left ix item given is = ap (pairs_at s) given ∙ rw is refl

  pub pairs_at-last :
      (all left : List ℕ) (ix : ℕ) (item : T)
      → all ≡ left ++ ix ∷ []
      → get s ix ≡ Some item
      → pairs_at s all ≡ pairs_at s left ++ (ix, item) ∷ []
  pairs_at-last all left ix item given is =
      let one : pairs_at s (ix ∷ []) ≡ (ix, item) ∷ [] = rw is refl in
      ap (pairs_at s) given ∙ filter_map-append (index_with_item s) left (ix ∷ []) ∙ ap (λ l. pairs_at s left ++ l) one

  -- so it has fewer left
  pub pairs_at-fewer :
      (all : List (ℕ × T)) (left : List ℕ) (pair : ℕ × T)
      → all ≡ pairs_at s left ++ pair ∷ []
      → length (pairs_at s left) < length all
  pairs_at-fewer all left pair is = omega (arith, ap length is, length_push (pairs_at s left) pair)

  pub length-pairs_at :
      (xs : List ℕ) → ((j : ℕ) → Contains xs j → IsLive s j) → length (pairs_at s xs) ≡ length xs
  length-pairs_at [] live = refl
  length-pairs_at (x ∷ xs) live =
      let (item, is) = item_at s x (live x (contains_head x xs)) in
      let rest = length-pairs_at xs (λ j here. live j (contains_tail x j xs here)) in
      ap length (pairs_at-first (x ∷ xs) xs x item refl is) ∙ omega (arith, rest)

module _ {T K : Type 0} (key_of : T → K) (compare : K → K → Ordering) (s : Store T) where
  pub in_front :
      (ix : ℕ) (rest : List ℕ)
      → IsInPlace key_of compare s (ix ∷ rest)
      → (j : ℕ)
      → Contains rest j
      → ComesBefore key_of compare s ix j
  unfolding IsStrictlySortedBy
  in_front ix rest placed j there =
      All-contains (λ j. ComesBefore key_of compare s ix j) rest j (All-from_recursion (λ j. ComesBefore key_of compare s ix j) rest placed.0) there

  pub put_in_front :
      (ix : ℕ) (rest : List ℕ)
      → ((j : ℕ) → Contains rest j → ComesBefore key_of compare s ix j)
      → IsInPlace key_of compare s rest
      → IsInPlace key_of compare s (ix ∷ rest)
  unfolding IsStrictlySortedBy
  put_in_front ix rest before placed = (
    recursion_from_All (λ j. ComesBefore key_of compare s ix j) rest (λ k d within. before _ (Contains-get_or rest k d within)),
    placed,
  )

  at_end :
      (ix : ℕ) (rest : List ℕ)
      → IsInPlace key_of compare s (rest ++ ix ∷ [])
      → (j : ℕ)
      → Contains rest j
      → ComesBefore key_of compare s j ix
  unfolding IsStrictlySortedBy
  at_end ix [] placed j there = absurd (contains_none j there)
  at_end ix (y ∷ ys) placed j there =
      elim (contains_cases y j ys there) [
        | inl same ↦ rw (← same) (in_front y (ys ++ ix ∷ []) placed ix (Contains-append_right ys (ix ∷ []) ix (contains_head ix [])))
        | inr behind ↦ at_end ix ys placed.1 j behind
      ]

  pub none_placed : IsInPlace key_of compare s []
  unfolding IsStrictlySortedBy
  none_placed = tt

  module _ (within : K → Bool) where
    pub SortsWithin-none : HasNoHit s (passes_by key_of within) → SortsWithin key_of compare within s []
    SortsWithin-none none = record {
      each = λ j. (λ here. absurd (contains_none j here), λ hit. absurd (none j hit));
      placed = none_placed;
    }

    -- the first of a list of them, which may have none
    pub IsFirstHit-none :
        (indexes : List ℕ)
        → SortsWithin key_of compare within s indexes
        → indexes ≡ []
        → HasNoHit s (passes_by key_of within)
    IsFirstHit-none indexes sorts is j hit = contains_none j (rw is at ((sorts.each j).1 hit))

    pub IsFirstHit-head :
        (ix : ℕ) (rest indexes : List ℕ)
        → SortsWithin key_of compare within s indexes
        → indexes ≡ ix ∷ rest
        → IsFirstHit key_of compare s (passes_by key_of within) (Some ix)
    IsFirstHit-head ix rest indexes sorts is =
        let each = λ (j : ℕ). rw is at (sorts.each j) in
        let placed : IsInPlace key_of compare s (ix ∷ rest) = rw is at sorts.placed in (
          (each ix).0 (contains_head ix rest),
          λ j hit other. elim (contains_cases ix j rest ((each j).1 hit)) [
            | inl same ↦ absurd (other (sym same))
            | inr there ↦ in_front ix rest placed j there
          ],
        )

    pub IsFirstHit-next :
        (indexes rest : List ℕ) (r : Option ℕ)
        → SortsWithin key_of compare within s indexes
        → MatchOption r ((indexes ≡ []) × (rest ≡ [])) (λ ix. indexes ≡ ix ∷ rest)
        → IsFirstHit key_of compare s (passes_by key_of within) r
    IsFirstHit-next indexes rest None sorts is = IsFirstHit-none indexes sorts is.0
    IsFirstHit-next indexes rest (Some ix) sorts is = IsFirstHit-head ix rest indexes sorts is

    -- and its last
    pub IsLastHit-end :
        (ix : ℕ) (rest indexes : List ℕ)
        → SortsWithin key_of compare within s indexes
        → indexes ≡ rest ++ ix ∷ []
        → IsHit s (passes_by key_of within) ix ×
        ((j : ℕ) → IsHit s (passes_by key_of within) j → j ≢ ix → ComesBefore key_of compare s j ix)
    IsLastHit-end ix rest indexes sorts is =
        let each = λ (j : ℕ). rw is at (sorts.each j) in
        let placed : IsInPlace key_of compare s (rest ++ ix ∷ []) = rw is at sorts.placed in (
          (each ix).0 (Contains-append_right rest (ix ∷ []) ix (contains_head ix [])),
          λ j hit other. elim (Contains-push_cases rest ix j ((each j).1 hit)) [
            | inl there ↦ at_end ix rest placed j there
            | inr same ↦ absurd (other (sym same))
          ],
        )

    -- and the list of those that are left without it
    module _
        (total : IsTotalOrder compare) (ix : ℕ)
        (first : IsFirstHit key_of compare s (passes_by key_of within) (Some ix))
      where
        -- a hit that is left was one, at another index
        pub hit_before :
            (j : ℕ)
            → IsHit (removed s ix) (passes_by key_of within) j
            → (j ≢ ix) × IsHit s (passes_by key_of within) j
        hit_before j (y, there, passed) =
            let (item, live, own) = first.0 in
            let (apart, was) = live_before s ix j item y live there in
            (apart, (y, was, passed))

        pub hit_still :
            (j : ℕ)
            → j ≢ ix
            → IsHit s (passes_by key_of within) j
            → IsHit (removed s ix) (passes_by key_of within) j
        hit_still j apart (y, there, passed) = (y, get-removed_other s ix j apart ∙ there, passed)

        pub SortsWithin-first :
            (rest : List ℕ)
            → SortsWithin key_of compare within (removed s ix) rest
            → SortsWithin key_of compare within s (ix ∷ rest)
        SortsWithin-first rest sorts =
            let left : (j : ℕ) → Contains rest j → (j ≢ ix) × IsHit s (passes_by key_of within) j = λ j there. hit_before j ((sorts.each j).0 there) in
            record {
              each = λ j. (
                λ here. elim (contains_cases ix j rest here) [
                  | inl same ↦ rw (← same) first.0
                  | inr there ↦ (left j there).1
                ],
                λ hit. elim (cases_eq j ix) [
                  | inl same ↦ rw same (contains_head ix rest)
                  | inr other ↦ contains_tail ix j rest ((sorts.each j).1 (hit_still j other hit))
                ],
              );
              placed = put_in_front ix rest (λ j there. first.1 j (left j there).1 (left j there).0)
                  (IsInPlace-alike key_of compare total (removed s ix) s rest (λ j there. sym (get-removed_other s ix j (left j there).0)) sorts.placed);
            }

-- pairs of indexes whose items are the same
pub pairs_at-alike :
    {T : Type 0} (s t : Store T) (indexes : List ℕ)
    → ((j : ℕ) → Contains indexes j → get t j ≡ get s j)
    → pairs_at t indexes ≡ pairs_at s indexes
pairs_at-alike s t [] same = refl
pairs_at-alike s t (ix ∷ rest) same =
    rw (same ix (contains_head ix rest), pairs_at-alike s t rest (λ j there. same j (contains_tail ix j rest there))) refl

-- between a query and itself stand the keys at which it is Equal
at_both : (r : Ordering) → (not (is_gt r) && not (is_lt r)) ≡ is_eq r
at_both Less = refl
at_both Equal = refl
at_both Greater = refl

pub between_equal :
    {K : Type 0} (comparing : K → Ordering)
    → is_between (Included comparing) (Included comparing) ≡ is_equal comparing
between_equal comparing = λ i k. at_both (comparing k) i
