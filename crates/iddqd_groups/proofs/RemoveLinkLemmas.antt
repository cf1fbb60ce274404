-- The chains after an index was removed: its neighbours follow one another.
use Rattle.std.proofs.Common.{◌≡◌, ◌≢◌, ◌∙◌, ◌↔◌, ◌⊎◌, inl, inr, ℕ, ◌<◌, Some, None, IsSome, sym, ap, subst, arith, eq-eqb}
use Rattle.std.specs.Ordering.{nat_cmp}
use Rattle.std.specs.FinMap as finite
use Rattle.std.specs.FinMap.{FinMap}
use Rattle.std.proofs.lemmas.Bool.{cases_eq}
use Rattle.iddqd.specs.Store.{sentinel}
use Rattle.iddqd.proofs.StoreLemmas.{differs}
use Rattle.iddqd_hash.proofs.MemberLemmas.{get-insert_at, get-insert_other, get-remove_at, get-remove_other, filed_hash, filed_at}
use Rattle.iddqd_groups.specs.Links.{IsChained, AreHeads, LeadsBack, heads_after}
use Rattle.iddqd_groups.proofs.InsertLinkLemmas.{one_hash}

-- an index that is filed after a removal is another one
pub apart_from_removed :
    (m : FinMap nat_cmp ℕ) (ix j hash : ℕ)
    → finite.get (finite.remove m ix) j ≡ Some hash
    → j ≢ ix
apart_from_removed m ix j hash here same =
    let never : None ≡ Some hash =
    sym (get-remove_at m ix) ∙ subst (λ k. finite.get (finite.remove m ix) k ≡ Some hash) same here in
    cc

-- no index follows itself
pub next_other :
    (filed : FinMap nat_cmp ℕ) (next prev : ℕ → ℕ)
    → IsChained filed next prev
    → (ix : ℕ)
    → IsSome (finite.get filed ix)
    → next ix ≢ ix
next_other filed next prev is ix here same =
    let rose = is.acyclic.rises ix here (λ none. is.not_sentinel ix here (sym same ∙ none)) in
    let never : is.acyclic.depth ix < is.acyclic.depth ix =
    subst (λ k. is.acyclic.depth ix < is.acyclic.depth k) same rose in
    omega (arith, never)

-- an index is removed, and those to which it led, in both directions, lead to one another
module _
    (filed : FinMap nat_cmp ℕ) (there back there' back' : ℕ → ℕ) (ix hash : ℕ)
    (here : finite.get filed ix ≡ Some hash)
    (named : (j : ℕ) → IsSome (finite.get filed j) → j ≢ sentinel)
    (forth : LeadsBack filed there back)
    (returns : LeadsBack filed back there)
    (apart : there ix ≢ sentinel → there ix ≢ ix)
    (leads_on : back ix ≢ sentinel → there' (back ix) ≡ there ix)
    (leads_back : there ix ≢ sentinel → back' (there ix) ≡ back ix)
    (there_stays : (j : ℕ) → j ≢ sentinel → j ≢ ix → j ≢ back ix → there' j ≡ there j)
    (back_stays : (j : ℕ) → j ≢ sentinel → j ≢ ix → j ≢ there ix → back' j ≡ back j)
  where
    pub LeadsBack-removed : LeadsBack (finite.remove filed ix) there' back'
    LeadsBack-removed j h given goes =
        let other = apart_from_removed filed ix j h given in
        let was : finite.get filed j ≡ Some h = sym (get-remove_other filed ix j other) ∙ given in
        let named_j = named j (filed_at _ h was) in
        elim (cases_eq j (back ix)) [
          | inl same ↦
              let seen : back ix ≢ sentinel = λ none. named_j (same ∙ none) in
              let on = ap there' same ∙ leads_on seen in
              let follows : there ix ≢ sentinel = λ none. goes (on ∙ none) in
              let hashed : h ≡ hash =
              one_hash _ h hash was (ap (finite.get filed) same ∙ (returns ix hash here seen).0) in
              let stays = get-remove_other filed ix (there ix) (apart follows) ∙ (forth ix hash here follows).0 in
              rw (on, hashed) (stays, leads_back follows ∙ sym same)
          | inr away ↦
              let on = there_stays j named_j other away in
              let (follower, comes) = forth j h was (λ none. goes (on ∙ none)) in
              let named_on = named (there j) (filed_at _ h follower) in
              let new : there j ≢ ix = λ same. away (sym comes ∙ ap back same) in
              let unlike : there j ≢ there ix =
              λ same. other (sym comes ∙ ap back same ∙ (forth ix hash here (λ none. named_on (same ∙ none))).1) in
              rw on (
                get-remove_other filed ix (there j) new ∙ follower,
                back_stays (there j) named_on new unlike ∙ comes,
              )
        ]

module _
    (heads filed : FinMap nat_cmp ℕ) (next prev nexts prevs : ℕ → ℕ) (is : AreHeads heads filed next prev)
    (ix hash : ℕ) (here : finite.get filed ix ≡ Some hash)
    (next_prev : prev ix ≢ sentinel → nexts (prev ix) ≡ next ix)
    (prev_next : next ix ≢ sentinel → prevs (next ix) ≡ prev ix)
    (next_stays : (j : ℕ) → j ≢ sentinel → j ≢ ix → j ≢ prev ix → nexts j ≡ next j)
    (prev_stays : (j : ℕ) → j ≢ sentinel → j ≢ ix → j ≢ next ix → prevs j ≡ prev j)
  where
    before : prev ix ≢ sentinel → (finite.get filed (prev ix) ≡ Some hash) × (next (prev ix) ≡ ix)
    before there = is.chained.back ix hash here there

    after : next ix ≢ sentinel → (finite.get filed (next ix) ≡ Some hash) × (prev (next ix) ≡ ix)
    after there = is.chained.forth ix hash here there

    stays : (j h : ℕ) → j ≢ ix → finite.get filed j ≡ Some h → finite.get (finite.remove filed ix) j ≡ Some h
    stays j h other stood = get-remove_other filed ix j other ∙ stood

    stood : (j h : ℕ) → finite.get (finite.remove filed ix) j ≡ Some h → finite.get filed j ≡ Some h
    stood j h given = sym (get-remove_other filed ix j (apart_from_removed filed ix j h given)) ∙ given

    named_at : (j h : ℕ) → finite.get filed j ≡ Some h → j ≢ sentinel
    named_at j h there = is.chained.not_sentinel j (filed_at _ h there)

    -- neither neighbour is the index itself
    next_apart : next ix ≢ ix
    next_apart = next_other filed next prev is.chained ix (filed_at _ hash here)

    prev_apart : prev ix ≢ sentinel → prev ix ≢ ix
    prev_apart there same =
        let (stood, follows) = before there in
        let loops : next ix ≡ ix = ap next (sym same) ∙ follows in
        next_apart loops

    removed_rises :
        (j : ℕ)
        → IsSome (finite.get (finite.remove filed ix) j)
        → nexts j ≢ sentinel
        → is.chained.acyclic.depth j < is.chained.acyclic.depth (nexts j)
    removed_rises j given goes =
        let was = is.chained.acyclic in
        let (h, hashed) = filed_hash _ given in
        let there = stood j h hashed in
        let other = apart_from_removed filed ix j h hashed in
        elim (cases_eq j (prev ix)) [
          | inl same ↦
              let seen : prev ix ≢ sentinel = λ none. named_at j h there (same ∙ none) in
              let on = ap nexts same ∙ next_prev seen in
              let follows : next ix ≢ sentinel = λ none. goes (on ∙ none) in
              let (leader, forth) = before seen in
              let low =
              was.rises (prev ix) (filed_at _ hash leader) (λ none. named_at ix hash here (sym forth ∙ none)) in
              let low_ix : was.depth (prev ix) < was.depth ix =
              subst (λ k. was.depth (prev ix) < was.depth k) forth low in
              let high = was.rises ix (filed_at _ hash here) follows in
              rw (on, same) (omega (arith, low_ix, high))
          | inr apart ↦
              let on = next_stays j (named_at j h there) other apart in
              rw on (was.rises j (filed_at _ h there) (λ none. goes (on ∙ none)))
        ]

    removed_chained : IsChained (finite.remove filed ix) nexts prevs
    removed_chained = record {
      forth =
          LeadsBack-removed filed next prev nexts prevs ix hash here is.chained.not_sentinel is.chained.forth is.chained.back
          (λ _. next_apart) next_prev prev_next next_stays prev_stays;
      back =
          LeadsBack-removed filed prev next prevs nexts ix hash here is.chained.not_sentinel is.chained.back is.chained.forth
          prev_apart prev_next next_prev prev_stays next_stays;
      acyclic = record {
        depth = is.chained.acyclic.depth;
        top = is.chained.acyclic.top;
        below = λ j given.
            let (h, hashed) = filed_hash _ given in
            is.chained.acyclic.below j (filed_at _ h (stood j h hashed));
        rises = removed_rises;
      };
      not_sentinel = λ j given.
          let (h, hashed) = filed_hash _ given in
          named_at j h (stood j h hashed);
    }

    -- of the others, those that none comes before: the one that followed a head, and those that were first
    first_was :
        (j h : ℕ)
        → j ≢ next ix
        → finite.get (finite.remove filed ix) j ≡ Some h
        → prevs j ≡ sentinel
        → finite.get heads j ≡ Some h
    first_was j h apart given first =
        let was = stood j h given in
        let on = prev_stays j (named_at j h was) (apart_from_removed filed ix j h given) apart in
        (is.firsts j h).1 (was, sym on ∙ first)

    first_stays :
        (j h : ℕ)
        → j ≢ ix
        → finite.get heads j ≡ Some h
        → (finite.get (finite.remove filed ix) j ≡ Some h) × (prevs j ≡ sentinel)
    first_stays j h other leads =
        let (there, first) = (is.firsts j h).0 leads in
        let named_j = named_at j h there in
        let apart : j ≢ next ix =
        λ same. named_at ix hash here (sym (after (λ none. named_j (same ∙ none))).1 ∙ ap prev (sym same) ∙ first) in
        (stays j h other there, prev_stays j named_j other apart ∙ first)

    -- an index that another one comes before is no head
    pub AreHeads-removed : prev ix ≢ sentinel → AreHeads heads (finite.remove filed ix) nexts prevs
    AreHeads-removed seen = record {
      chained = removed_chained;
      firsts = λ j h. (
        λ leads.
            let first = ((is.firsts j h).0 leads).1 in
            first_stays j h (λ same. seen (ap prev (sym same) ∙ first)) leads,
        λ given.
            let there = named_at j h (stood j h given.0) in
            let apart : j ≢ next ix =
            λ same. seen (sym (prev_next (λ none. there (same ∙ none))) ∙ ap prevs (sym same) ∙ given.1) in
            first_was j h apart given.0 given.1,
      );
      one_head = is.one_head;
    }

    -- a head that another index follows gives its place to that, and else leaves none
    module _ (leads : prev ix ≡ sentinel) where
      head : finite.get heads ix ≡ Some hash
      head = (is.firsts ix hash).1 (here, leads)

      -- what the other heads are
      left : (j h : ℕ) → j ≢ ix → finite.get heads j ≡ Some h → finite.get (finite.remove heads ix) j ≡ Some h
      left j h other was = get-remove_other heads ix j other ∙ was

      was_left : (j h : ℕ) → finite.get (finite.remove heads ix) j ≡ Some h → finite.get heads j ≡ Some h
      was_left j h given = sym (get-remove_other heads ix j (apart_from_removed heads ix j h given)) ∙ given

      -- another head has another hash
      unlike_head : (j h : ℕ) → finite.get (finite.remove heads ix) j ≡ Some h → h ≢ hash
      unlike_head j h given same =
          apart_from_removed heads ix j h given (is.one_head j ix hash (was_left j h given ∙ ap Some same) head)

      AreHeads-lone : next ix ≡ sentinel → AreHeads (finite.remove heads ix) (finite.remove filed ix) nexts prevs
      AreHeads-lone last = record {
        chained = removed_chained;
        firsts = λ j h. (
          λ given. first_stays j h (apart_from_removed heads ix j h given) (was_left j h given),
          λ given.
              let there = named_at j h (stood j h given.0) in
              left j h (apart_from_removed filed ix j h given.0)
              (first_was j h (λ same. there (same ∙ last)) given.0 given.1),
        );
        one_head = λ i j h p q. is.one_head i j h (was_left i h p) (was_left j h q);
      }

      module _ (follows : next ix ≢ sentinel) where
        follower_first : prevs (next ix) ≡ sentinel
        follower_first = prev_next follows ∙ leads

        follower_filed : finite.get (finite.remove filed ix) (next ix) ≡ Some hash
        follower_filed = stays (next ix) hash next_apart (after follows).0

        replaced_firsts :
            (j h : ℕ)
            → finite.get (finite.insert (finite.remove heads ix) (next ix) hash) j ≡ Some h
            ↔ ((finite.get (finite.remove filed ix) j ≡ Some h) × (prevs j ≡ sentinel))
        replaced_firsts j h =
            elim (cases_eq j (next ix)) [
              | inl same ↦
                  rw (same, get-insert_at (finite.remove heads ix) (next ix) hash, follower_filed)
                  (λ e. (e, follower_first), λ p. p.0)
              | inr other ↦
                  rw (get-insert_other (finite.remove heads ix) (next ix) hash j other) (
                    λ given. first_stays j h (apart_from_removed heads ix j h given) (was_left j h given),
                    λ given. left j h (apart_from_removed filed ix j h given.0) (first_was j h other given.0 given.1),
                  )
            ]

        replaced_one :
            (i j h : ℕ)
            → finite.get (finite.insert (finite.remove heads ix) (next ix) hash) i ≡ Some h
            → finite.get (finite.insert (finite.remove heads ix) (next ix) hash) j ≡ Some h
            → i ≡ j
        replaced_one i j h p q = by_cases (cases_eq i (next ix)) (cases_eq j (next ix))
          where
            others :
                (k : ℕ)
                → k ≢ next ix
                → finite.get (finite.insert (finite.remove heads ix) (next ix) hash) k ≡ Some h
                → finite.get (finite.remove heads ix) k ≡ Some h
            others k other r = sym (get-insert_other (finite.remove heads ix) (next ix) hash k other) ∙ r

            at_it :
                (k : ℕ)
                → k ≡ next ix
                → finite.get (finite.insert (finite.remove heads ix) (next ix) hash) k ≡ Some h
                → h ≡ hash
            at_it k same r =
                one_hash _ h hash r (ap (finite.get (finite.insert (finite.remove heads ix) (next ix) hash)) same
                ∙ get-insert_at (finite.remove heads ix) (next ix) hash)

            by_cases : ((i ≡ next ix) ⊎ (i ≢ next ix)) → ((j ≡ next ix) ⊎ (j ≢ next ix)) → i ≡ j
            by_cases (inl a) (inl b) = a ∙ sym b
            by_cases (inl a) (inr b) = absurd (unlike_head j h (others j b q) (at_it i a p))
            by_cases (inr a) (inl b) = absurd (unlike_head i h (others i a p) (at_it j b q))
            by_cases (inr a) (inr b) = is.one_head i j h (was_left i h (others i a p)) (was_left j h (others j b q))

        AreHeads-replaced :
            AreHeads (finite.insert (finite.remove heads ix) (next ix) hash) (finite.remove filed ix) nexts prevs
        AreHeads-replaced = record { chained = removed_chained; firsts = replaced_firsts; one_head = replaced_one }

      pub AreHeads-head_removed : AreHeads (heads_after heads ix hash (next ix)) (finite.remove filed ix) nexts prevs
      AreHeads-head_removed =
          elim (cases_eq (next ix) sentinel) [
            | inl last ↦ rw (eq-eqb (next ix) sentinel last) (AreHeads-lone last)
            | inr follows ↦ rw (differs (next ix) sentinel follows) (AreHeads-replaced follows)
          ]
