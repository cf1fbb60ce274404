-- The walk along a chain of indexes, and that the chain from the head of a hash has exactly the indexes under it.
use Rattle.std.proofs.Common.{◌≡◌, ◌≢◌, ◌∙◌, inl, inr, ◌+◌, ◌-◌, ◌<◌, ◌≤◌, ℕ, zero, suc, List, [], ◌∷◌, length, get_or, slice_index_or, false, nat_eq, Some, IsSome, Contains, refl, sym, ap, subst, arith, eq-eqb}
use Rattle.std.specs.List.{IsDistinct}
use Rattle.std.specs.Ordering.{nat_cmp}
use Rattle.std.specs.FinMap as finite
use Rattle.std.specs.FinMap.{FinMap}
use Rattle.std.proofs.lemmas.Bool.{cases_eq}
use Rattle.std.proofs.lemmas.Bool.Decides.{Decides-eqb}
use Rattle.std.proofs.lemmas.List.Elements.{recursion_from_All, Contains-get_or}
use Rattle.std.proofs.lemmas.Map.Keys.{IsDistinct-cons}
use Rattle.std.proofs.lemmas.Map.Made.{is_member-Decides}
use Rattle.std.proofs.lemmas.Map.Steps.{length-le_from_distinct_below}
use Rattle.iddqd.specs.Store.{sentinel}
use Rattle.iddqd.proofs.StoreLemmas.{contains_head, contains_tail, contains_cases, contains_none, differs}
use Rattle.iddqd_hash.proofs.MemberLemmas.{filed_at}
use Rattle.iddqd_groups.specs.Links.{chain, EndsWithin, IsChained, IsWalk, AreHeads, AreUnder, filed_by, next_of, prev_of}
use Rattle.iddqd_groups.specs.LinkedTable.{AreHeadsOf, IsLinkedTable}
use Rattle.iddqd_groups.specs.declared.linked_table.links.Link.{Link}
use Rattle.iddqd_groups.proofs.LinksLemmas.{below-filed_by, length-filed, length-filed_by, link_read}

-- the chain from an index, a step of the walk at a time
module _ (next : ℕ → ℕ) where
  pub chain-stop : (most ix : ℕ) → ix ≡ sentinel → chain next most ix ≡ []
  chain-stop zero ix is = refl
  chain-stop (suc most) ix is = rw (eq-eqb ix sentinel is) refl

  pub chain-go : (most ix : ℕ) → ix ≢ sentinel → chain next (suc most) ix ≡ ix ∷ chain next most (next ix)
  chain-go most ix there = rw (differs ix sentinel there) refl

  module _ (bound : ℕ) where
    pub EndsWithin-stop : (most ix : ℕ) → ix ≡ sentinel → EndsWithin next bound most ix
    EndsWithin-stop zero ix is = is
    EndsWithin-stop (suc most) ix is = λ there. absurd (there is)

    -- a chain that ends after so many ends after more
    EndsWithin-more : (few most ix : ℕ) → few ≤ most → EndsWithin next bound few ix → EndsWithin next bound most ix
    EndsWithin-more zero most ix less ends = EndsWithin-stop most ix ends
    EndsWithin-more (suc few) zero ix less ends = absurd (omega (arith, less))
    EndsWithin-more (suc few) (suc most) ix less ends = λ there.
        let (below, rest) = ends there in
        (below, EndsWithin-more few most (next ix) (omega (arith, less)) rest)

    -- behind an index the chain ends as early
    pub EndsWithin-step :
        (most ix : ℕ)
        → EndsWithin next bound most ix
        → ix ≢ sentinel
        → (ix < bound) × EndsWithin next bound most (next ix)
    EndsWithin-step zero ix ends there = absurd (there ends)
    EndsWithin-step (suc most) ix ends there =
        let (below, rest) = ends there in
        (below, EndsWithin-more most (suc most) (next ix) (omega arith) rest)

    -- one more step adds nothing to a chain that has ended
    chain-suc : (most ix : ℕ) → EndsWithin next bound most ix → chain next (suc most) ix ≡ chain next most ix
    chain-suc zero ix ends = chain-stop (suc zero) ix ends
    chain-suc (suc most) ix ends =
        elim (cases_eq ix sentinel) [
          | inl same ↦ chain-stop (suc (suc most)) ix same ∙ sym (chain-stop (suc most) ix same)
          | inr there ↦
              chain-go (suc most) ix there
              ∙ ap (λ rest. ix ∷ rest) (chain-suc most (next ix) (ends there).1)
              ∙ sym (chain-go most ix there)
        ]

    -- so a step of the walk takes the first index off
    pub chain-step :
        (most ix : ℕ)
        → EndsWithin next bound most ix
        → ix ≢ sentinel
        → chain next most ix ≡ ix ∷ chain next most (next ix)
    chain-step zero ix ends there = absurd (there ends)
    chain-step (suc most) ix ends there =
        chain-go most ix there ∙ ap (λ rest. ix ∷ rest) (sym (chain-suc most (next ix) (ends there).1))

    -- a chain that ends does so after as many steps as it has members
    EndsWithin-length :
        (most ix : ℕ)
        → EndsWithin next bound most ix
        → EndsWithin next bound (length (chain next most ix)) ix
    EndsWithin-length zero ix ends = ends
    EndsWithin-length (suc most) ix ends =
        elim (cases_eq ix sentinel) [
          | inl same ↦ EndsWithin-stop _ ix same
          | inr there ↦
              subst (λ list. EndsWithin next bound (length list) ix) (sym (chain-go most ix there))
              (λ _. ((ends there).0, EndsWithin-length most (next ix) (ends there).1))
        ]

    chain-first : (most ix : ℕ) → EndsWithin next bound most ix → ix ≢ sentinel → Contains (chain next most ix) ix
    chain-first most ix ends there =
        subst (λ list. Contains list ix) (sym (chain-step most ix ends there)) (contains_head ix _)

    -- what follows a member is a member
    chain-next :
        (most ix member : ℕ)
        → EndsWithin next bound most ix
        → Contains (chain next most ix) member
        → next member ≢ sentinel
        → Contains (chain next most ix) (next member)
    chain-next zero ix member ends here goes = absurd (contains_none member here)
    chain-next (suc most) ix member ends here goes =
        elim (cases_eq ix sentinel) [
          | inl same ↦
              absurd (contains_none member (subst (λ list. Contains list member) (chain-stop (suc most) ix same) here))
          | inr there ↦
              let rest = (ends there).1 in
              let listed = subst (λ list. Contains list member) (chain-go most ix there) here in
              subst (λ list. Contains list (next member)) (sym (chain-go most ix there))
              (contains_tail ix (next member) _
              (elim (contains_cases ix member _ listed) [
                | inl first ↦
                    subst (λ j. Contains (chain next most (next ix)) (next j)) first
                    (chain-first most (next ix) rest (λ none. goes (ap next (sym first) ∙ none)))
                | inr later ↦ chain-next most (next ix) member rest later goes
              ]))
        ]

module _ (filed : FinMap nat_cmp ℕ) (next prev : ℕ → ℕ) (is : IsChained filed next prev) where
  real : (ix hash : ℕ) → finite.get filed ix ≡ Some hash → ix ≢ sentinel
  real ix hash here = is.not_sentinel ix (filed_at _ hash here)

  -- the members of a chain have the hash of its first, and none has a lower depth
  pub members :
      (most ix hash member : ℕ)
      → finite.get filed ix ≡ Some hash
      → Contains (chain next most ix) member
      → (finite.get filed member ≡ Some hash) × (is.acyclic.depth ix ≤ is.acyclic.depth member)
  members zero ix hash member here listed = absurd (contains_none member listed)
  members (suc most) ix hash member here listed =
      let there = real ix hash here in
      let split = subst (λ list. Contains list member) (chain-go next most ix there) listed in
      elim (contains_cases ix member _ split) [
        | inl first ↦
            subst (λ j. (finite.get filed j ≡ Some hash) × (is.acyclic.depth ix ≤ is.acyclic.depth j)) first
            (here, omega arith)
        | inr later ↦
            elim (cases_eq (next ix) sentinel) [
              | inl last ↦
                  absurd (contains_none member (subst (λ list. Contains list member)
                  (chain-stop next most (next ix) last) later))
              | inr goes ↦
                  let follows = (is.forth ix hash here goes).0 in
                  let rose = is.acyclic.rises ix (filed_at _ hash here) goes in
                  let (has, least) = members most (next ix) hash member follows later in
                  (has, omega (arith, rose, least))
            ]
      ]

  -- so no index comes twice
  distinct-chain :
      (most ix hash : ℕ)
      → finite.get filed ix ≡ Some hash
      → IsDistinct nat_eq (chain next most ix)
  unfolding IsDistinct
  distinct-chain zero ix hash here = tt
  distinct-chain (suc most) ix hash here =
      let there = real ix hash here in
      subst (λ list. IsDistinct nat_eq list) (sym (chain-go next most ix there))
      (elim (cases_eq (next ix) sentinel) [
        | inl last ↦
            subst (λ list. IsDistinct nat_eq (ix ∷ list)) (sym (chain-stop next most (next ix) last)) (tt, tt)
        | inr goes ↦
            let follows = (is.forth ix hash here goes).0 in
            let rose = is.acyclic.rises ix (filed_at _ hash here) goes in
            let rest = chain next most (next ix) in
            IsDistinct-cons nat_eq ix rest
            (recursion_from_All (λ y. nat_eq ix y ≡ false) rest (λ k d inside. differs ix (get_or rest k d) (λ same.
            let least = (members most (next ix) hash (get_or rest k d) follows (Contains-get_or rest k d inside)).1 in
            let never : is.acyclic.depth ix < is.acyclic.depth ix =
            subst (λ j. is.acyclic.depth ix < is.acyclic.depth j) (sym same) (omega (arith, rose, least)) in
            omega (arith, never))))
            (distinct-chain most (next ix) hash follows)
      ])

  module _ (bound : ℕ) (below : (ix : ℕ) → IsSome (finite.get filed ix) → ix < bound) where
    -- the chain ends before the depth rises over the top
    EndsWithin-depth :
        (most ix hash : ℕ)
        → finite.get filed ix ≡ Some hash
        → is.acyclic.top ≤ most + is.acyclic.depth ix
        → EndsWithin next bound most ix
    EndsWithin-depth zero ix hash here enough =
        let less = is.acyclic.below ix (filed_at _ hash here) in
        absurd (omega (arith, less, enough))
    EndsWithin-depth (suc most) ix hash here enough = λ there. (
      below ix (filed_at _ hash here),
      elim (cases_eq (next ix) sentinel) [
        | inl last ↦ EndsWithin-stop next bound most (next ix) last
        | inr goes ↦
            let rose = is.acyclic.rises ix (filed_at _ hash here) goes in
            EndsWithin-depth most (next ix) hash (is.forth ix hash here goes).0 (omega (arith, rose, enough))
      ],
    )

    -- its members are distinct and below the bound, so they are no more than that
    pub EndsWithin-filed : (ix hash : ℕ) → finite.get filed ix ≡ Some hash → EndsWithin next bound bound ix
    EndsWithin-filed ix hash here =
        let top = is.acyclic.top in
        let ends = EndsWithin-depth top ix hash here (omega arith) in
        let within =
        length-le_from_distinct_below (chain next top ix) bound (distinct-chain top ix hash here)
        (λ q member. below q (filed_at _ hash (members top ix hash q here
        ((is_member-Decides Decides-eqb (chain next top ix) q).0 member)).0)) in
        EndsWithin-more next bound (length (chain next top ix)) bound ix within
        (EndsWithin-length next bound top ix ends)

-- the chain from the head of a hash
module _
    (heads filed : FinMap nat_cmp ℕ) (next prev : ℕ → ℕ) (is : AreHeads heads filed next prev) (bound hash : ℕ)
  where
    depth_before :
        (ix : ℕ)
        → finite.get filed ix ≡ Some hash
        → prev ix ≢ sentinel
        → is.chained.acyclic.depth (prev ix) < is.chained.acyclic.depth ix
    depth_before ix here goes =
        let (before, forth) = is.chained.back ix hash here goes in
        let there = real filed next prev is.chained ix hash here in
        subst (λ j. is.chained.acyclic.depth (prev ix) < is.chained.acyclic.depth j) forth
        (is.chained.acyclic.rises (prev ix) (filed_at _ hash before) (λ none. there (sym forth ∙ none)))

    -- an index under a hash has a head, and the chain from that comes to it
    head_before :
        (steps ix : ℕ)
        → finite.get filed ix ≡ Some hash
        → is.chained.acyclic.depth ix < steps
        → (head : ℕ)
        × (finite.get heads head ≡ Some hash)
        × ((most : ℕ) → EndsWithin next bound most head → Contains (chain next most head) ix)
    head_before zero ix here below = absurd (omega (arith, below))
    head_before (suc steps) ix here below =
        let there = real filed next prev is.chained ix hash here in
        elim (cases_eq (prev ix) sentinel) [
          | inl first ↦
              (ix, (is.firsts ix hash).1 (here, first), λ most ends. chain-first next bound most ix ends there)
          | inr goes ↦
              let (before, forth) = is.chained.back ix hash here goes in
              let less = depth_before ix here goes in
              let (head, led, listed) = head_before steps (prev ix) before (omega (arith, below, less)) in (
                head,
                led,
                λ most ends.
                    subst (λ j. Contains (chain next most head) j) forth
                    (chain-next next bound most head (prev ix) ends (listed most ends)
                    (λ none. there (sym forth ∙ none))),
              )
        ]

    pub AreUnder-chain :
        (head most : ℕ)
        → finite.get heads head ≡ Some hash
        → EndsWithin next bound most head
        → AreUnder filed hash (chain next most head)
    AreUnder-chain head most led ends =
        let here = ((is.firsts head hash).0 led).0 in
        record {
          each = λ ix. (
            λ listed. (members filed next prev is.chained most head hash ix here listed).0,
            λ filed_ix.
                let (first, leads, listed) = head_before (suc (is.chained.acyclic.depth ix)) ix filed_ix (omega arith) in
                let one = is.one_head first head hash leads led in
                subst (λ j. Contains (chain next most j) ix) one
                (listed most (subst (λ j. EndsWithin next bound most j) (sym one) ends)),
          );
          once = distinct-chain filed next prev is.chained most head hash here;
        }

    -- where no head has the hash, no index has it
    pub AreUnder-none :
        (most ix : ℕ)
        → ((head : ℕ) → finite.get heads head ≡ Some hash → ⊥)
        → ix ≡ sentinel
        → AreUnder filed hash (chain next most ix)
    unfolding IsDistinct
    AreUnder-none most ix none last =
        subst (λ list. AreUnder filed hash list) (sym (chain-stop next most ix last)) (record {
          each = λ j. (
            λ listed. absurd (contains_none j listed),
            λ filed_j.
                let (head, led, listed) = head_before (suc (is.chained.acyclic.depth j)) j filed_j (omega arith) in
                absurd (none head led),
          );
          once = tt;
        })

-- the indexes under a hash are no more than the table has
length-under :
    (filed : FinMap nat_cmp ℕ) (hash : ℕ) (indexes : List ℕ)
    → AreUnder filed hash indexes
    → length indexes ≤ finite.len filed
length-under filed hash indexes under =
    length-filed indexes filed under.once (λ ix listed.
    filed_at _ hash ((under.each ix).0 ((is_member-Decides Decides-eqb indexes ix).0 listed)))

-- Where an iterator over the indexes under a hash begins.
pub record IsStart (links : List Link) (hash at : ℕ) : Type 0 where
  pub ends : EndsWithin (next_of links) (length links) (length links) at
  pub under : AreUnder (filed_by links) hash (chain (next_of links) (length links) at)

-- it begins at the head of the hash, or has ended if there is none
module _ (heads : FinMap nat_cmp ℕ) (links : List Link) (is : AreHeadsOf heads links) (hash : ℕ) where
  pub IsStart-head : (head : ℕ) → finite.get heads head ≡ Some hash → IsStart links hash head
  IsStart-head head led =
      let here = ((is.firsts head hash).0 led).0 in
      let ends =
      EndsWithin-filed (filed_by links) (next_of links) (prev_of links) is.chained (length links)
      (below-filed_by links) head hash here in
      record {
        ends = ends;
        under = AreUnder-chain heads (filed_by links) (next_of links) (prev_of links) is (length links) hash head
            (length links) led ends;
      }

  pub IsStart-none :
      (at : ℕ)
      → ((head : ℕ) → finite.get heads head ≡ Some hash → ⊥)
      → at ≡ sentinel
      → IsStart links hash at
  IsStart-none at none last = record {
    ends = EndsWithin-stop (next_of links) (length links) (length links) at last;
    under = AreUnder-none heads (filed_by links) (next_of links) (prev_of links) is (length links) hash (length links)
        at none last;
  }

-- from there it goes over at most the indexes of the table
pub IsWalk-start :
    {heads : FinMap nat_cmp ℕ} {most : ℕ} {links : List Link} {len : ℕ} (hash at : ℕ)
    → IsLinkedTable heads most links len
    → IsStart links hash at
    → IsWalk links at len
IsWalk-start {links = links} hash at table start =
    let within = length-filed_by links in
    let under = length-under (filed_by links) hash _ start.under in
    record {
      ends = start.ends;
      counted = omega (arith, under, table.counted);
      few = omega (arith, within, table.counted, table.small);
    }

-- where an index comes next, one is left at least
pub some_left :
    (links : List Link) (at most : ℕ)
    → IsWalk links at most
    → at ≢ sentinel
    → 1 ≤ most
some_left links at most walk there =
    let next = next_of links in
    let size = length links in
    let one : length (chain next size at) ≡ suc (length (chain next size (next at))) =
    ap length (chain-step next size size at walk.ends there) in
    omega (arith, walk.counted, one)

-- a step of the walk, where the link of its index was read
module _
    (links : List Link) (place ix : ℕ) (link : Link) (same : place ≡ ix)
    (read : link ≡ slice_index_or links place link) (most : ℕ) (walk : IsWalk links ix most) (there : ix ≢ sentinel)
  where
    next_read : next_of links ix ≡ (slice_index_or links place link).next
    next_read =
        let below = (EndsWithin-step (next_of links) (length links) (length links) ix walk.ends there).0 in
        ap (λ (l : Link). l.next) (sym (link_read links place ix link same below read) ∙ read)

    pub chain-read :
        chain (next_of links) (length links) ix
        ≡ ix ∷ chain (next_of links) (length links) (slice_index_or links place link).next
    chain-read =
        chain-step (next_of links) (length links) (length links) ix walk.ends there
        ∙ ap (λ j. ix ∷ chain (next_of links) (length links) j) next_read

    pub IsWalk-read : IsWalk links (slice_index_or links place link).next (most - 1)
    IsWalk-read =
        let rest = chain (next_of links) (length links) (slice_index_or links place link).next in
        let one : length (chain (next_of links) (length links) ix) ≡ suc (length rest) = ap length chain-read in
        record {
          ends = subst (λ j. EndsWithin (next_of links) (length links) (length links) j) next_read
              (EndsWithin-step (next_of links) (length links) (length links) ix walk.ends there).1;
          counted = omega (arith, walk.counted, one);
          few = omega (arith, walk.few);
        }
