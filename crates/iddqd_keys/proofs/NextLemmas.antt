-- For callers: in the order of a key, the first hit within bounds, the next hit behind an index, and the hits from an
-- index on.
use Rattle.std.proofs.Common.{◌≡◌, ◌≢◌, ◌∙◌, ◌&&◌, ◌⊎◌, inl, inr, ◌↔◌, ℕ, Bool, true, false, not, List, [], ◌∷◌, Option, Some, None, refl, sym, ap, subst, Ordering}
use Rattle.std.specs.Cmp.{IsTotalOrder}
use Rattle.std.specs.List.{Contains}
use Rattle.std.specs.Ordering.{is_gt, is_lt, nat_cmp, ordering_then}
use Rattle.std.specs.Range.Bound.{bound_map}
use Rattle.std.specs.declared.cmp.Ordering.TheVariants.{Less, Equal, Greater}
use Rattle.std.specs.declared.ops.Bound.{Bound}
use Rattle.std.specs.declared.ops.Bound.TheVariants.{Included, Excluded, Unbounded}
use Rattle.std.proofs.lemmas.Bool.{cases_eq}
use Rattle.std.proofs.lemmas.Cmp.{tied_itself}
use Rattle.iddqd.specs.Store.{Store, get, removed}
use Rattle.iddqd.proofs.LiveLemmas.{get-removed_other}
use Rattle.iddqd.proofs.StoreLemmas.{contains_head, contains_tail, contains_cases, contains_none}
use Rattle.iddqd_keys.specs.KeyWalk.{by_key_then_index, ComesBefore, IsFirstHit, IsInPlace, IsNextHit, SortsWithin}
use Rattle.iddqd_keys.specs.OrderedQuery.{FitsOrder, is_from, is_up_to, is_between}
use Rattle.iddqd_keys.specs.Scan.{IsHit, passes_by}
use Rattle.iddqd_keys.proofs.KeyWalkLemmas.{IsInPlace-alike, none_placed, put_in_front, totals}
use Rattle.iddqd_keys.proofs.ScanLemmas.{live_before}

pub both : (a b : Bool) → (a && b) ≡ true → (a ≡ true) × (b ≡ true)
both true true is = (refl, refl)
both true false is = cc
both false b is = cc

-- of two in order, the first has the lesser key or an equal one
by_keys : (r s : Ordering) → ordering_then r s ≡ Less → (r ≡ Less) ⊎ (r ≡ Equal)
by_keys Less s is = inl refl
by_keys Equal s is = inr refl
by_keys Greater s is = cc

not_greater : (r s : Ordering) → (s ≡ Greater → r ≡ Greater) → not (is_gt r) ≡ true → not (is_gt s) ≡ true
not_greater r Less up is = refl
not_greater r Equal up is = refl
not_greater r Greater up is = let never = rw (up refl) at is in cc

not_less : (r s : Ordering) → (s ≡ Less → r ≡ Less) → not (is_lt r) ≡ true → not (is_lt s) ≡ true
not_less r Less down is = let never = rw (down refl) at is in cc
not_less r Equal down is = refl
not_less r Greater down is = refl

less_is : (r : Ordering) → is_lt r ≡ true → r ≡ Less
less_is Less is = refl
less_is Equal is = cc
less_is Greater is = cc

greater_is : (r : Ordering) → is_gt r ≡ true → r ≡ Greater
greater_is Less is = cc
greater_is Equal is = cc
greater_is Greater is = refl

-- of two keys in order, both are from a lower bound on where the first is, and up to an upper one where the second is
module _ {Q K : Type 0} (compare : K → K → Ordering) (cmp : Q → K → Ordering)
    (fits : (q : Q) → FitsOrder compare (cmp q)) (a b : K) (order : (compare a b ≡ Less) ⊎ (compare a b ≡ Equal))
  where
    less_at : (q : Q) → cmp q a ≡ Less → cmp q b ≡ Less
    less_at q less = elim order [
      | inl before ↦ (fits q).less_after a b before less
      | inr same ↦ sym ((fits q).equal_keys a b same) ∙ less
    ]

    greater_at : (q : Q) → cmp q b ≡ Greater → cmp q a ≡ Greater
    greater_at q greater = elim order [
      | inl before ↦ (fits q).greater_before a b before greater
      | inr same ↦ (fits q).equal_keys a b same ∙ greater
    ]

    pub is_from-behind :
        (lower : Bound Q) → is_from (bound_map cmp lower) a ≡ true → is_from (bound_map cmp lower) b ≡ true
    is_from-behind (Included q) is = not_greater (cmp q a) (cmp q b) (greater_at q) is
    is_from-behind (Excluded q) is = ap is_lt (less_at q (less_is (cmp q a) is))
    is_from-behind Unbounded is = refl

    pub is_up_to-before :
        (upper : Bound Q) → is_up_to (bound_map cmp upper) b ≡ true → is_up_to (bound_map cmp upper) a ≡ true
    is_up_to-before (Included q) is = not_less (cmp q b) (cmp q a) (less_at q) is
    is_up_to-before (Excluded q) is = ap is_gt (greater_at q (greater_is (cmp q b) is))
    is_up_to-before Unbounded is = refl

module _ {T K : Type 0} (key_of : T → K) (compare : K → K → Ordering) where
  -- the index is this one or behind it: nothing is where there is none
  abbrev pub IsFrom : Store T → Option ℕ → ℕ → Type 0
  IsFrom s None j = ⊥
  IsFrom s (Some ix) j = (j ≡ ix) ⊎ ComesBefore key_of compare s ix j

  -- these are the live indexes from one on whose items pass, sorted by key
  pub record SortsFrom (test : T → Bool) (s : Store T) (next : Option ℕ) (indexes : List ℕ) : Type 0 where
    pub each : (j : ℕ) → Contains indexes j ↔ (IsHit s test j × IsFrom s next j)
    pub placed : IsInPlace key_of compare s indexes

  -- how two live indexes compare
  pub compares_live :
      (s : Store T) (i j : ℕ) (x y : T)
      → get s i ≡ Some x
      → get s j ≡ Some y
      → by_key_then_index key_of compare s i j ≡ ordering_then (compare (key_of x) (key_of y)) (nat_cmp i j)
  compares_live s i j x y p q = rw (p, q) refl

  before_keys :
      (s : Store T) (i j : ℕ) (x y : T)
      → get s i ≡ Some x
      → get s j ≡ Some y
      → ComesBefore key_of compare s i j
      → (compare (key_of x) (key_of y) ≡ Less) ⊎ (compare (key_of x) (key_of y) ≡ Equal)
  before_keys s i j x y p q before = by_keys (compare (key_of x) (key_of y)) (nat_cmp i j) (rw (p, q) at before)

  -- the next hits
  pub next_hits :
      (s : Store T) (test : T → Bool) (ix : ℕ) (next : Option ℕ)
      → IsNextHit key_of compare s test ix next
      → (n : ℕ)
      → next ≡ Some n
      → IsHit s test n
  next_hits s test ix next is n same =
      let here : IsNextHit key_of compare s test ix (Some n) = subst (IsNextHit key_of compare s test ix) same is in
      here.0

  -- a removal changes no other's place
  pub before_still :
      (s : Store T) (ix i j : ℕ)
      → i ≢ ix
      → j ≢ ix
      → by_key_then_index key_of compare (removed s ix) i j ≡ by_key_then_index key_of compare s i j
  before_still s ix i j i_apart j_apart = rw (get-removed_other s ix i i_apart, get-removed_other s ix j j_apart) refl

  module _ (total : IsTotalOrder compare) (s : Store T) where
    pub not_before_itself : (ix : ℕ) → ComesBefore key_of compare s ix ix → ⊥
    not_before_itself ix before = let same = tied_itself (totals key_of compare total s) ix in cc

    module _ (test : T → Bool) (ix : ℕ) where
      -- what is from the next on is behind the index
      pub from_later :
          (next : Option ℕ) (j : ℕ)
          → IsNextHit key_of compare s test ix next
          → IsFrom s next j
          → ComesBefore key_of compare s ix j
      from_later None j is from = absurd from
      from_later (Some n) j is (inl same) = subst (ComesBefore key_of compare s ix) (sym same) is.1
      from_later (Some n) j is (inr behind) = (totals key_of compare total s).trans ix n j is.1 behind

      -- and the other way round, where it hits
      pub from_behind :
          (next : Option ℕ) (j : ℕ)
          → IsNextHit key_of compare s test ix next
          → IsHit s test j
          → ComesBefore key_of compare s ix j
          → IsFrom s next j
      from_behind None j is hit behind = is j hit behind
      from_behind (Some n) j is hit behind = elim (cases_eq j n) [
        | inl same ↦ inl same
        | inr apart ↦ inr (is.2 j hit behind apart)
      ]

      module _ (next : Option ℕ) (is : IsNextHit key_of compare s test ix next) (rest : List ℕ) where
        -- those from a hit on are it and those from the next on
        pub SortsFrom-more :
            IsHit s test ix
            → SortsFrom test s next rest
            → SortsFrom test s (Some ix) (ix ∷ rest)
        SortsFrom-more hit sorts = record {
          each = λ j. (
            λ here. elim (contains_cases ix j rest here) [
              | inl same ↦ (subst (IsHit s test) same hit, inl (sym same))
              | inr there ↦ let (one, from) = (sorts.each j).0 there in (one, inr (from_later next j is from))
            ],
            λ (one, from). elim from [
              | inl same ↦ rw same (contains_head ix rest)
              | inr behind ↦ contains_tail ix j rest ((sorts.each j).1 (one, from_behind next j is one behind))
            ],
          );
          placed = put_in_front key_of compare s ix rest (λ j there. from_later next j is ((sorts.each j).0 there).1) sorts.placed;
        }

        module _ (item : T) (live : get s ix ≡ Some item) where
          apart_from : (n : ℕ) → ComesBefore key_of compare s ix n → n ≢ ix
          apart_from n behind same = not_before_itself ix (subst (ComesBefore key_of compare s ix) same behind)

          from_before :
              (n : Option ℕ) (j : ℕ)
              → IsNextHit key_of compare s test ix n
              → j ≢ ix
              → IsFrom (removed s ix) n j ↔ IsFrom s n j
          from_before None j is apart = (λ from. from, λ from. from)
          from_before (Some n) j is apart =
              let still = before_still s ix n j (apart_from n is.1) apart in (
                λ from. elim from [
                  | inl same ↦ inl same
                  | inr behind ↦ inr (sym still ∙ behind)
                ],
                λ from. elim from [
                  | inl same ↦ inl same
                  | inr behind ↦ inr (still ∙ behind)
                ],
              )

          -- those behind a removed one are those that are left
          pub SortsFrom-removed : SortsFrom test (removed s ix) next rest → SortsFrom test s next rest
          SortsFrom-removed sorts =
              let stayed : (j : ℕ) → Contains rest j → (j ≢ ix) × IsHit s test j = λ j there.
              let (y, is_there, passed) = ((sorts.each j).0 there).0 in
              let (apart, was) = live_before s ix j item y live is_there in
              (apart, (y, was, passed)) in
              record {
                each = λ j. (
                  λ there. let (apart, hit) = stayed j there in (hit, (from_before next j is apart).0 ((sorts.each j).0 there).1),
                  λ (hit, from).
                      let apart = apart_from j (from_later next j is from) in
                      (sorts.each j).1 ((hit.0, get-removed_other s ix j apart ∙ hit.1, hit.2), (from_before next j is apart).1 from),
                );
                placed = IsInPlace-alike key_of compare total (removed s ix) s rest
                    (λ j there. sym (get-removed_other s ix j (stayed j there).0)) sorts.placed;
              }

          -- the next is there still, with its item
          pub next_still : (n : ℕ) → next ≡ Some n → IsHit (removed s ix) test n
          next_still n same =
              let here : IsNextHit key_of compare s test ix (Some n) = subst (IsNextHit key_of compare s test ix) same is in
              let (hit, behind, _) = here in
              (hit.0, get-removed_other s ix n (apart_from n behind) ∙ hit.1, hit.2)

    -- none from none on, and all from the first on
    module _ (test : T → Bool) where
      pub SortsFrom-none : SortsFrom test s None []
      SortsFrom-none = record {
        each = λ j. (λ here. absurd (contains_none j here), λ (hit, from). absurd from);
        placed = none_placed key_of compare s;
      }

    pub SortsWithin-from :
        (within : K → Bool) (first : Option ℕ) (indexes : List ℕ)
        → IsFirstHit key_of compare s (passes_by key_of within) first
        → SortsFrom (passes_by key_of within) s first indexes
        → SortsWithin key_of compare within s indexes
    SortsWithin-from within None indexes none sorts = record {
      each = λ j. (λ here. ((sorts.each j).0 here).0, λ hit. absurd (none j hit));
      placed = sorts.placed;
    }
    SortsWithin-from within (Some ix) indexes first sorts = record {
      each = λ j. (
        λ here. ((sorts.each j).0 here).0,
        λ hit. (sorts.each j).1 (
          hit,
          elim (cases_eq j ix) [
            | inl same ↦ inl same
            | inr apart ↦ inr (first.1 j hit apart)
          ],
        ),
      );
      placed = sorts.placed;
    }

  -- the next behind an index, by bounds
  module _
      {Q : Type 0} (cmp : Q → K → Ordering) (fits : (q : Q) → FitsOrder compare (cmp q)) (s : Store T) (ix : ℕ)
      (lower upper : Bound Q)
    where
      abbrev reaching : T → Bool
      reaching = passes_by key_of (is_up_to (bound_map cmp upper))

      abbrev between : T → Bool
      between = passes_by key_of (is_between (bound_map cmp lower) (bound_map cmp upper))

      reaches : (j : ℕ) → IsHit s between j → IsHit s reaching j
      reaches j (y, is, passed) = (y, is, (both _ _ passed).1)

      -- from the lower bound on
      abbrev from_lower : T → Bool
      from_lower = passes_by key_of (is_between (bound_map cmp lower) (bound_map cmp Unbounded))

      from_on : (j : ℕ) → IsHit s between j → IsHit s from_lower j
      from_on j (y, is, passed) =
          let from : is_from (bound_map cmp lower) (key_of y) ≡ true = (both _ _ passed).0 in
          (y, is, rw from refl)

      module _ (item : T) (live : get s ix ≡ Some item) where
        -- the first from the lower bound on is the first within both bounds, if it is up to the upper one
        pub IsFirstHit-reached :
            is_up_to (bound_map cmp upper) (key_of item) ≡ true
            → IsFirstHit key_of compare s from_lower (Some ix)
            → IsFirstHit key_of compare s between (Some ix)
        IsFirstHit-reached up_to ((x, is, passed), first) =
            let from : is_from (bound_map cmp lower) (key_of x) ≡ true = (both _ _ passed).0 in
            let one : Some x ≡ Some item = sym is ∙ live in
            let from_item : is_from (bound_map cmp lower) (key_of item) ≡ true = cc in
            ((item, live, rw (from_item, up_to) refl), λ j hit apart. first j (from_on j hit) apart)

        -- else none is
        pub IsFirstHit-passed :
            is_up_to (bound_map cmp upper) (key_of item) ≡ false
            → IsFirstHit key_of compare s from_lower (Some ix)
            → IsFirstHit key_of compare s between None
        IsFirstHit-passed past (_, first) j (y, is, passed) =
            let up_to : is_up_to (bound_map cmp upper) (key_of y) ≡ true = (both _ _ passed).1 in
            elim (cases_eq j ix) [
              | inl same ↦ let here : Some y ≡ Some item = sym is ∙ (ap (get s) same ∙ live) in cc
              | inr apart ↦
                  let order = before_keys s ix j item y live is (first j (from_on j (y, is, passed)) apart) in
                  let reached = is_up_to-before compare cmp fits (key_of item) (key_of y) order upper up_to in
                  cc
            ]

      pub IsFirstHit-missed :
          IsFirstHit key_of compare s from_lower None
          → IsFirstHit key_of compare s between None
      IsFirstHit-missed none j hit = none j (from_on j hit)

      -- behind an item within both bounds is one within both that is the next up to the upper bound
      pub IsNextHit-between :
          (next : Option ℕ)
          → IsHit s between ix
          → IsNextHit key_of compare s reaching ix next
          → IsNextHit key_of compare s between ix next
      IsNextHit-between None hit is = λ j other behind. is j (reaches j other) behind
      IsNextHit-between (Some n) hit is =
          let (x, live, passed) = hit in
          let (y, next, up_to) = is.0 in
          let from = is_from-behind compare cmp fits (key_of x) (key_of y) (before_keys s ix n x y live next is.1) lower (both _ _ passed).0 in
          ((y, next, rw (from, up_to) refl), is.1, λ j other behind apart. is.2 j (reaches j other) behind apart)

      -- the next of all is the next up to a bound, if it is up to that; else none is
      pub IsNextHit-reached :
          (n : ℕ)
          → IsNextHit key_of compare s (λ _. true) ix (Some n)
          → IsHit s reaching n
          → IsNextHit key_of compare s reaching ix (Some n)
      IsNextHit-reached n (_, behind, first) hit =
          (hit, behind, λ j (y, is, _) later apart. first j (y, is, refl) later apart)

      pub IsNextHit-passed :
          (n : ℕ)
          → IsNextHit key_of compare s (λ _. true) ix (Some n)
          → (IsHit s reaching n → ⊥)
          → IsNextHit key_of compare s reaching ix None
      IsNextHit-passed n ((x, live, _), behind, first) none j (y, is, passed) later =
          elim (cases_eq j n) [
            | inl same ↦ none (subst (IsHit s reaching) same (y, is, passed))
            | inr apart ↦ none (
              x,
              live,
              is_up_to-before compare cmp fits (key_of x) (key_of y)
                  (before_keys s n j x y live is (first j (y, is, refl) later apart)) upper passed,
            )
          ]

      pub IsNextHit-none :
          IsNextHit key_of compare s (λ _. true) ix None
          → IsNextHit key_of compare s reaching ix None
      IsNextHit-none none j (y, is, _) behind = none j (y, is, refl) behind
