-- What stands between two bounds of a table's list: a run of it, and where it is in place exactly what is within both.
use Rattle.std.proofs.Common.{◌-◌, ◌≤◌, drop, length, length-drop, take_all, ◌≡◌, ◌∙◌, ◌&&◌, inl, inr, ℕ, Bool, true, false, not, List, [], ◌∷◌, filter, cond, Some, None, refl, sym, ap, subst, Ordering, arith}
use Rattle.std.specs.Cmp.{IsTotalOrder}
use Rattle.std.specs.Fn.{Mut}
use Rattle.std.specs.List.{Contains}
use Rattle.std.specs.Ordering.{is_gt, is_lt, ordering_then}
use Rattle.std.specs.Borrow.{Bor}
use Rattle.std.specs.Range.Bound.{bound_map}
use Rattle.std.specs.declared.cmp.Ordering.TheVariants.{Less, Equal, Greater}
use Rattle.std.specs.declared.ops.Bound.{Bound}
use Rattle.std.specs.declared.ops.Bound.TheVariants.{Included, Excluded, Unbounded}
use Rattle.std.proofs.lemmas.List.Kept.{IsStrictlySortedBy-filter}
use Rattle.iddqd.specs.Store.{Store, get}
use Rattle.iddqd.proofs.LiveLemmas.{item_at, live_at}
use Rattle.iddqd.proofs.StoreLemmas.{contains_head, contains_tail, contains_cases, contains_none}
use Rattle.iddqd_order.proofs.BoundLemmas.{is_within, part-within}
use Rattle.iddqd_order.specs.Cursor.{part}
use Rattle.iddqd_order.specs.Range.{Begins, Ends, WalksBetween, indexes_ahead}
use Rattle.iddqd_order.specs.Search.{IsSteady, IsSteadyRising, IsPlace}
use Rattle.iddqd_order.specs.declared.btree_table.asking.Asking.{Asking}
use Rattle.iddqd_order.specs.declared.btree_table.range.Range.{Range}
use Rattle.iddqd_keys.specs.OrderedQuery.{FitsOrder, is_from, is_up_to, is_between}
use Rattle.iddqd_by_order.specs.Ordered.{Holds, IsInPlace, compared, key_at}
use Rattle.iddqd_by_order.specs.OrderedWalk.{SortsWithin}
use Rattle.iddqd_by_order.specs.OrderedWalk.{WalksWithin}
use Rattle.iddqd_by_order.proofs.OrderedFindLemmas.{answer_at, IsRising-fitting}
use Rattle.iddqd_by_order.proofs.OrderedWalkLemmas.{IsRunOf-part, Contains-run, IsDistinct-run}

-- a bound that is read in two steps
pub bound_map-twice :
    {A B C : Type 0} (g : B → C) (f : A → B) (b : Bound A)
    → bound_map g (bound_map f b) ≡ bound_map (λ x. g (f x)) b
bound_map-twice g f (Included x) = refl
bound_map-twice g f (Excluded x) = refl
bound_map-twice g f Unbounded = refl

-- how a bound reads a borrowed key
abbrev pub reads_by : {Q K : Type 0} → (Q → K → Ordering) → Bound Q → Bound (Bor K → Ordering)
reads_by cmp b = bound_map (λ q k. cmp q k.now) b

-- one that borrows a query in another form reads as the query does
pub reads_borrowed :
    {Q R K : Type 0} (of : R → Q) (cmp : Q → K → Ordering) (lent : Bound (Bor R)) (own : Bound R) (bound : Bound Q)
    → bound_map (λ r. r.now) lent ≡ own
    → bound_map of own ≡ bound
    → reads_by (λ (r : Bor R) k. cmp (of r.now) k) lent ≡ reads_by cmp bound
reads_borrowed {Q} {R} {K} of cmp lent own bound is_own is_bound =
    let read : Q → Bor K → Ordering = λ q k. cmp q k.now in
    sym (bound_map-twice (λ r. read (of r)) (λ (r : Bor R). r.now) lent) ∙ ap (bound_map (λ r. read (of r))) is_own
    ∙ sym (bound_map-twice read of own) ∙ ap (bound_map read) is_bound

-- what a filter keeps
pub kept_from : (p : ℕ → Bool) (xs : List ℕ) (x : ℕ) → Contains (filter p xs) x → Contains xs x × (p x ≡ true)
kept_from p [] x here = absurd (contains_none x here)
kept_from p (y ∷ ys) x here =
    elim (p y) as (λ b. p y ≡ b → Contains (cond b (y ∷ filter p ys) (filter p ys)) x → Contains (y ∷ ys) x × (p x ≡ true)) [
      | true ↦ λ is listed. elim (contains_cases y x (filter p ys) listed) [
        | inl same ↦ (subst (Contains (y ∷ ys)) same (contains_head y ys), subst (λ z. p z ≡ true) same is)
        | inr there ↦ let later = kept_from p ys x there in (contains_tail y x ys later.0, later.1)
      ]
      | false ↦ λ is listed. let later = kept_from p ys x listed in (contains_tail y x ys later.0, later.1)
    ] refl here

pub keeps : (p : ℕ → Bool) (xs : List ℕ) (x : ℕ) → Contains xs x → p x ≡ true → Contains (filter p xs) x
keeps p [] x here passes = absurd (contains_none x here)
keeps p (y ∷ ys) x here passes =
    elim (contains_cases y x ys here) [
      | inl same ↦ rw (same, passes) (contains_head x (filter p ys))
      | inr there ↦ elim (p y) as (λ b. Contains (cond b (y ∷ filter p ys) (filter p ys)) x) [
        | true ↦ contains_tail y x (filter p ys) (keeps p ys x there passes)
        | false ↦ keeps p ys x there passes
      ]
    ]

-- where Equal counts as another answer
not_gt_less : (r : Ordering) → not (is_gt (ordering_then r Less)) ≡ not (is_gt r)
not_gt_less Less = refl
not_gt_less Equal = refl
not_gt_less Greater = refl

not_gt_greater : (r : Ordering) → not (is_gt (ordering_then r Greater)) ≡ is_lt r
not_gt_greater Less = refl
not_gt_greater Equal = refl
not_gt_greater Greater = refl

gt_less : (r : Ordering) → is_gt (ordering_then r Less) ≡ is_gt r
gt_less Less = refl
gt_less Equal = refl
gt_less Greater = refl

gt_greater : (r : Ordering) → is_gt (ordering_then r Greater) ≡ not (is_lt r)
gt_greater Less = refl
gt_greater Equal = refl
gt_greater Greater = refl

module _
    {T K Q : Type 0} (key_of : T → K) (compare : K → K → Ordering) (cmp : Q → K → Ordering) (s : Store T)
    (order : List ℕ)
  where
    -- how a query answers at an index
    abbrev answers : Q → ℕ → Ordering
    answers q ix = compared (cmp q) (key_at key_of s ix)

    -- the answers by which the places of two bounds are found
    abbrev lower_at : Bound Q → ℕ → Ordering
    lower_at (Included q) ix = ordering_then (answers q ix) Less
    lower_at (Excluded q) ix = ordering_then (answers q ix) Greater
    lower_at Unbounded ix = Less

    abbrev upper_at : Bound Q → ℕ → Ordering
    upper_at (Included q) ix = ordering_then (answers q ix) Greater
    upper_at (Excluded q) ix = ordering_then (answers q ix) Less
    upper_at Unbounded ix = Greater

    from_at :
        (lower : Bound Q) (ix : ℕ) (item : T)
        → get s ix ≡ Some item
        → not (is_gt (lower_at lower ix)) ≡ is_from (bound_map cmp lower) (key_of item)
    from_at (Included q) ix item is =
        not_gt_less (answers q ix) ∙ ap (λ r. not (is_gt r)) (answer_at key_of compare s order (cmp q) ix item is)
    from_at (Excluded q) ix item is =
        not_gt_greater (answers q ix) ∙ ap is_lt (answer_at key_of compare s order (cmp q) ix item is)
    from_at Unbounded ix item is = refl

    up_to_at :
        (upper : Bound Q) (ix : ℕ) (item : T)
        → get s ix ≡ Some item
        → is_gt (upper_at upper ix) ≡ is_up_to (bound_map cmp upper) (key_of item)
    up_to_at (Included q) ix item is =
        gt_greater (answers q ix) ∙ ap (λ r. not (is_lt r)) (answer_at key_of compare s order (cmp q) ix item is)
    up_to_at (Excluded q) ix item is =
        gt_less (answers q ix) ∙ ap is_gt (answer_at key_of compare s order (cmp q) ix item is)
    up_to_at Unbounded ix item is = refl

    module _ (lower upper : Bound Q) (holds : Holds s order) where
      abbrev chosen : ℕ → Bool
      chosen = is_within (lower_at lower) (upper_at upper)

      abbrev between : K → Bool
      between = is_between (bound_map cmp lower) (bound_map cmp upper)

      chosen_at : (ix : ℕ) (item : T) → get s ix ≡ Some item → chosen ix ≡ between (key_of item)
      chosen_at ix item is =
          ap (λ b. b && is_gt (upper_at upper ix)) (from_at lower ix item is)
          ∙ ap (λ b. is_from (bound_map cmp lower) (key_of item) && b) (up_to_at upper ix item is)

      SortsWithin-chosen : IsInPlace key_of compare s order → SortsWithin key_of compare between s (filter chosen order)
      SortsWithin-chosen placed = record {
        each = λ ix. (
          λ here.
              let (stored, passes) = kept_from chosen order ix here in
              let (item, is) = item_at s ix ((holds.each ix).0 stored) in
              (item, is, sym (chosen_at ix item is) ∙ passes),
          λ (item, is, passes). keeps chosen order ix ((holds.each ix).1 (live_at s ix item is)) (chosen_at ix item is ∙ passes),
        );
        placed = IsStrictlySortedBy-filter _ chosen order placed;
      }

      module _
          {F : Type 0} (g : Mut F (ℕ × Unit {0}) (Bor K)) (old new : Asking F) (total : IsTotalOrder compare)
          (fits : (q : Q) → FitsOrder compare (cmp q))
          (steady : (q : Q) → IsSteady g order None (λ k. cmp q k.now) (answers q) old)
        where
          abbrev reads : Bound Q → Bound (Bor K → Ordering)
          reads b = reads_by cmp b

          module _ (placed : IsInPlace key_of compare s order) where
            rising : (q : Q) → IsSteadyRising g order None (λ k. cmp q k.now) (answers q) old
            rising q = record {
              steady = steady q;
              rising = IsRising-fitting compare (cmp q) (fits q) total (key_at key_of s) order placed;
            }

            begins_at :
                (lower : Bound Q) (place : ℕ)
                → Begins g order (reads lower) old place
                → IsPlace (lower_at lower) order place
            begins_at (Included q) place begins = begins (answers q) (rising q)
            begins_at (Excluded q) place begins = begins (answers q) (rising q)
            begins_at Unbounded place begins = record {
              within = omega (arith, begins);
              greater_before = λ k lt. absurd (omega (arith, begins, lt));
              less_from = λ k from lt. refl;
            }

            ends_at :
                (upper : Bound Q) (place : ℕ)
                → Ends g order (reads upper) old place
                → IsPlace (upper_at upper) order place
            ends_at (Included q) place ends = ends (answers q) (rising q)
            ends_at (Excluded q) place ends = ends (answers q) (rising q)
            ends_at Unbounded place ends = record {
              within = omega (arith, ends);
              greater_before = λ k lt. refl;
              less_from = λ k from lt. absurd (omega (arith, ends, from, lt));
            }

            SortsWithin-part :
                (from to : ℕ)
                → Begins g order (reads lower) old from
                → Ends g order (reads upper) old to
                → SortsWithin key_of compare between s (part from to order)
            SortsWithin-part from to begins ends =
                subst (SortsWithin key_of compare between s)
                (sym (part-within (lower_at lower) (upper_at upper) order from to (begins_at lower from begins) (ends_at upper to ends)))
                (SortsWithin-chosen placed)

          -- all from a lower bound on
          pub SortsWithin-behind :
              IsInPlace key_of compare s order
              → (from : Bound (Bor K → Ordering))
              → from ≡ reads lower
              → (place : ℕ)
              → Begins g order from old place
              → Ends g order (reads upper) old (length order)
              → SortsWithin key_of compare between s (drop place order)
          SortsWithin-behind placed from from_is place begins ends =
              let short : length (drop place order) ≤ length order - place = omega (arith, length-drop place order) in
              subst (SortsWithin key_of compare between s) (take_all (length order - place) (drop place order) short)
              (SortsWithin-part placed place (length order) (subst (λ b. Begins g order b old place) from_is begins) ends)

          WalksWithin-part :
              (from to : ℕ)
              → Begins g order (reads lower) old from
              → Ends g order (reads upper) old to
              → WalksWithin key_of compare between s order (part from to order)
          WalksWithin-part from to begins ends =
              let run = IsRunOf-part order from to in
              record {
                run = run;
                live = λ ix here. (holds.each ix).0 (Contains-run order (part from to order) run ix here);
                once = IsDistinct-run order (part from to order) run holds.once;
                in_place = λ placed. SortsWithin-part placed from to begins ends;
              }

          pub WalksWithin-walked :
              (from to : Bound (Bor K → Ordering))
              → from ≡ reads lower
              → to ≡ reads upper
              → (walk : Range)
              → WalksBetween g order from to old walk new
              → WalksWithin key_of compare between s order (indexes_ahead walk)
          WalksWithin-walked from to from_is to_is walk walks =
              let begins = subst (λ b. Begins g order b old walks.from) from_is walks.begins in
              let ends = subst (λ b. Ends g order b old walks.to) to_is walks.ends in
              subst (WalksWithin key_of compare between s order) (sym walks.ahead.ahead) (WalksWithin-part walks.from walks.to begins ends)
