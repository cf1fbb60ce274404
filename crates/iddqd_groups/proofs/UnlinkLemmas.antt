-- The steps by which an index is taken out of a list of links, or is put into it behind a head.
use Rattle.std.proofs.Common.{◌≡◌, ◌≢◌, ◌∙◌, inl, inr, ◌==◌, ◌<◌, if◌then◌else◌, ℕ, List, length, Some, None, IsSome, refl, sym, eq-eqb}
use Rattle.std.specs.Ordering.{nat_cmp}
use Rattle.std.specs.FinMap as finite
use Rattle.std.specs.FinMap.{FinMap}
use Rattle.std.proofs.lemmas.Bool.{cases_eq}
use Rattle.iddqd.specs.Store.{sentinel}
use Rattle.iddqd.proofs.StoreLemmas.{differs}
use Rattle.iddqd_hash.proofs.MemberLemmas.{get-remove_at, get-remove_other, filed_at}
use Rattle.iddqd_groups.specs.Links.{filed_by, next_of, prev_of, heads_after}
use Rattle.iddqd_groups.specs.LinkedTable.{AreHeadsOf}
use Rattle.iddqd_groups.specs.declared.linked_table.links.Link.{Link}
use Rattle.iddqd_groups.proofs.LinksLemmas.{below-filed_by}
use Rattle.iddqd_groups.proofs.RemoveLinkLemmas.{next_other, AreHeads-removed, AreHeads-head_removed}

-- a value that is given at one place, and elsewhere stays
pub at_place : (ix value other : ℕ) → (if ix == ix then value else other) ≡ value
at_place ix value other = rw (eq-eqb ix ix refl) refl

pub at_other : (j ix value other : ℕ) → j ≢ ix → (if j == ix then value else other) ≡ other
at_other j ix value other apart = rw (differs j ix apart) refl

-- what a map hasn't, it hasn't after a removal
pub none_left :
    (m : FinMap nat_cmp ℕ) (ix j : ℕ)
    → finite.get m j ≡ None
    → finite.get (finite.remove m ix) j ≡ None
none_left m ix j none =
    elim (cases_eq j ix) [
      | inl same ↦ rw same (get-remove_at m ix)
      | inr other ↦ get-remove_other m ix j other ∙ none
    ]

module _
    (heads : FinMap nat_cmp ℕ) (old : List Link) (is : AreHeadsOf heads old) (ix hash : ℕ)
    (here : finite.get (filed_by old) ix ≡ Some hash)
  where
    real : ix ≢ sentinel
    real = is.chained.not_sentinel ix (filed_at _ hash here)

    pub prev_within : (prev : ℕ) → prev ≡ prev_of old ix → prev ≢ sentinel → prev < length old
    prev_within prev was there =
        let before = (is.chained.back ix hash here (λ none. there (was ∙ none))).0 in
        rw was (below-filed_by old (prev_of old ix) (filed_at _ hash before))

    pub next_left :
        (next : ℕ)
        → next ≡ next_of old ix
        → next ≢ sentinel
        → IsSome (finite.get (finite.remove (filed_by old) ix) next)
    next_left next was there =
        let after = (is.chained.forth ix hash here (λ none. there (was ∙ none))).0 in
        let other = next_other (filed_by old) (next_of old) (prev_of old) is.chained ix (filed_at _ hash here) in
        rw was (filed_at _ hash (get-remove_other (filed_by old) ix (next_of old ix) other ∙ after))

    pub leads : prev_of old ix ≡ sentinel → finite.get heads ix ≡ Some hash
    leads first = (is.firsts ix hash).1 (here, first)

    -- what follows an index is no head
    pub follower_unled : finite.get heads (next_of old ix) ≡ None
    follower_unled =
        elim (finite.get heads (next_of old ix)) as (λ o. finite.get heads (next_of old ix) ≡ o → o ≡ None) [
          | Some h ↦ λ led.
              let (there, first) = (is.firsts (next_of old ix) h).0 led in
              let named = is.chained.not_sentinel (next_of old ix) (filed_at _ h there) in
              let back = (is.chained.forth ix hash here named).1 in
              absurd (real (sym back ∙ first))
          | None ↦ λ _. refl
        ] refl

    module _
        (taken led new : List Link) (prev next : ℕ)
        (next_was : next ≡ next_of old ix)
        (prev_was : prev ≡ prev_of old ix)
        (taken_next : (j : ℕ) → j ≢ ix → next_of taken j ≡ next_of old j)
        (taken_prev : (j : ℕ) → j ≢ ix → prev_of taken j ≡ prev_of old j)
        (led_next : (j : ℕ) → j ≢ sentinel → next_of led j ≡ (if j == prev then next else next_of taken j))
        (led_prev : (j : ℕ) → prev_of led j ≡ prev_of taken j)
        (new_next : (j : ℕ) → next_of new j ≡ next_of led j)
        (new_prev : (j : ℕ) → j ≢ sentinel → prev_of new j ≡ (if j == next then prev else prev_of led j))
        (filed_new : filed_by new ≡ finite.remove (filed_by old) ix)
      where
        next_prev : prev_of old ix ≢ sentinel → next_of new (prev_of old ix) ≡ next_of old ix
        next_prev there =
            new_next (prev_of old ix) ∙ led_next (prev_of old ix) there ∙ rw prev_was (at_place (prev_of old ix) next _)
            ∙ next_was

        prev_next : next_of old ix ≢ sentinel → prev_of new (next_of old ix) ≡ prev_of old ix
        prev_next there =
            new_prev (next_of old ix) there ∙ rw next_was (at_place (next_of old ix) prev _) ∙ prev_was

        next_stays : (j : ℕ) → j ≢ sentinel → j ≢ ix → j ≢ prev_of old ix → next_of new j ≡ next_of old j
        next_stays j there other apart =
            new_next j ∙ led_next j there ∙ at_other j prev next _ (λ same. apart (same ∙ prev_was))
            ∙ taken_next j other

        prev_stays : (j : ℕ) → j ≢ sentinel → j ≢ ix → j ≢ next_of old ix → prev_of new j ≡ prev_of old j
        prev_stays j there other apart =
            new_prev j there ∙ at_other j next prev _ (λ same. apart (same ∙ next_was)) ∙ led_prev j
            ∙ taken_prev j other

        pub AreHeadsOf-taken : prev ≢ sentinel → AreHeadsOf heads new
        AreHeadsOf-taken led =
            rw filed_new (AreHeads-removed heads (filed_by old) (next_of old) (prev_of old) (next_of new)
            (prev_of new) is ix hash here next_prev prev_next next_stays prev_stays (λ none. led (prev_was ∙ none)))

        pub AreHeadsOf-head_taken : prev ≡ sentinel → AreHeadsOf (heads_after heads ix hash next) new
        AreHeadsOf-head_taken first =
            rw (filed_new, next_was) (AreHeads-head_removed heads (filed_by old) (next_of old) (prev_of old)
            (next_of new) (prev_of new) is ix hash here next_prev prev_next next_stays prev_stays
            (sym prev_was ∙ first))
