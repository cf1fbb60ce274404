-- The chains after an index was inserted: alone under its hash, or behind the head of its hash.
use Rattle.std.proofs.Common.{◌≡◌, ◌≢◌, ◌∙◌, ◌↔◌, ◌⊎◌, inl, inr, ℕ, ◌+◌, ◌*◌, ◌<◌, ◌==◌, if◌then◌else◌, max, suc, Option, Some, None, IsSome, refl, sym, ap, subst, arith, eq-eqb}
use Rattle.std.specs.Ordering.{nat_cmp}
use Rattle.std.specs.FinMap as finite
use Rattle.std.specs.FinMap.{FinMap}
use Rattle.std.proofs.lemmas.Bool.{cases_eq}
use Rattle.iddqd.specs.Store.{sentinel}
use Rattle.iddqd.proofs.StoreLemmas.{differs}
use Rattle.iddqd_hash.proofs.MemberLemmas.{get-insert_at, get-insert_other, filed_hash, filed_at}
use Rattle.iddqd_groups.specs.Links.{AreHeads, LeadsBack, IsAcyclic}

-- two values of one place are the same
pub one_hash : (o : Option ℕ) (a b : ℕ) → o ≡ Some a → o ≡ Some b → a ≡ b
one_hash o a b p q = let same : Some a ≡ Some b = sym p ∙ q in cc

-- an index that is filed isn't one that is not
pub apart_from_absent :
    (m : FinMap nat_cmp ℕ) (ix : ℕ)
    → finite.get m ix ≡ None
    → (j hash : ℕ)
    → finite.get m j ≡ Some hash
    → j ≢ ix
apart_from_absent m ix absent j hash here same =
    let never : None ≡ Some hash = sym absent ∙ subst (λ k. finite.get m k ≡ Some hash) same here in
    cc

-- an index that leads to none is added
LeadsBack-alone :
    (filed : FinMap nat_cmp ℕ) (there back there' back' : ℕ → ℕ) (ix hash : ℕ)
    → finite.get filed ix ≡ None
    → LeadsBack filed there back
    → there' ix ≡ sentinel
    → ((j : ℕ) → j ≢ ix → there' j ≡ there j)
    → ((j : ℕ) → j ≢ ix → back' j ≡ back j)
    → LeadsBack (finite.insert filed ix hash) there' back'
LeadsBack-alone filed there back there' back' ix hash absent was none there_stays back_stays j h given goes =
    elim (cases_eq j ix) [
      | inl same ↦ absurd (goes (ap there' same ∙ none))
      | inr other ↦
          let here : finite.get filed j ≡ Some h = sym (get-insert_other filed ix hash j other) ∙ given in
          let (leads, returns) = was j h here (λ none. goes (there_stays j other ∙ none)) in
          let apart = apart_from_absent filed ix absent (there j) h leads in
          rw (there_stays j other) (
            get-insert_other filed ix hash (there j) apart ∙ leads,
            back_stays (there j) apart ∙ returns,
          )
    ]

module _
    (heads filed : FinMap nat_cmp ℕ) (next prev nexts prevs : ℕ → ℕ) (is : AreHeads heads filed next prev)
    (ix hash : ℕ) (absent : finite.get filed ix ≡ None) (named : ix ≢ sentinel)
  where
    named_new : (j : ℕ) → IsSome (finite.get (finite.insert filed ix hash) j) → j ≢ sentinel
    named_new j here =
        elim (cases_eq j ix) [
          | inl same ↦ λ none. named (sym same ∙ none)
          | inr other ↦ is.chained.not_sentinel j (subst IsSome (get-insert_other filed ix hash j other) here)
        ]

    -- where no index has the hash
    module _
        (alone : (j : ℕ) → finite.get heads j ≡ Some hash → ⊥)
        (last : nexts ix ≡ sentinel)
        (first : prevs ix ≡ sentinel)
        (next_stays : (j : ℕ) → j ≢ ix → nexts j ≡ next j) (prev_stays : (j : ℕ) → j ≢ ix → prevs j ≡ prev j)
      where
        alone_rising : IsAcyclic (finite.insert filed ix hash) nexts
        alone_rising =
            let was = is.chained.acyclic in
            record {
              depth = was.depth;
              top = max was.top (suc (was.depth ix));
              below = λ j here.
                  elim (cases_eq j ix) [
                    | inl same ↦ rw same (omega (arith))
                    | inr other ↦
                        let less = was.below j (subst IsSome (get-insert_other filed ix hash j other) here) in
                        omega (arith, less)
                  ];
              rises = λ j here goes.
                  elim (cases_eq j ix) [
                    | inl same ↦ absurd (goes (ap nexts same ∙ last))
                    | inr other ↦
                        let stood = subst IsSome (get-insert_other filed ix hash j other) here in
                        rw (next_stays j other) (was.rises j stood (λ none. goes (next_stays j other ∙ none)))
                  ];
            }

        alone_firsts :
            (j h : ℕ)
            → finite.get (finite.insert heads ix hash) j ≡ Some h
            ↔ ((finite.get (finite.insert filed ix hash) j ≡ Some h) × (prevs j ≡ sentinel))
        alone_firsts j h =
            elim (cases_eq j ix) [
              | inl same ↦
                  rw (same, get-insert_at heads ix hash, get-insert_at filed ix hash) (λ e. (e, first), λ p. p.0)
              | inr other ↦
                  rw (
                    get-insert_other heads ix hash j other,
                    get-insert_other filed ix hash j other,
                    prev_stays j other,
                  ) (is.firsts j h)
            ]

        alone_one_head :
            (i j h : ℕ)
            → finite.get (finite.insert heads ix hash) i ≡ Some h
            → finite.get (finite.insert heads ix hash) j ≡ Some h
            → i ≡ j
        alone_one_head i j h p q = by_cases (cases_eq i ix) (cases_eq j ix)
          where
            stood : (k : ℕ) → k ≢ ix → finite.get (finite.insert heads ix hash) k ≡ Some h → finite.get heads k ≡ Some h
            stood k other r = sym (get-insert_other heads ix hash k other) ∙ r

            not_there :
                (k l : ℕ)
                → k ≡ ix
                → l ≢ ix
                → finite.get (finite.insert heads ix hash) k ≡ Some h
                → finite.get (finite.insert heads ix hash) l ≡ Some h
                → ⊥
            not_there k l same other r s =
                let hashed : h ≡ hash =
                one_hash _ h hash r (ap (finite.get (finite.insert heads ix hash)) same
                ∙ get-insert_at heads ix hash) in
                alone l (stood l other s ∙ ap Some hashed)

            by_cases : ((i ≡ ix) ⊎ (i ≢ ix)) → ((j ≡ ix) ⊎ (j ≢ ix)) → i ≡ j
            by_cases (inl a) (inl b) = a ∙ sym b
            by_cases (inl a) (inr b) = absurd (not_there i j a b p q)
            by_cases (inr a) (inl b) = absurd (not_there j i b a q p)
            by_cases (inr a) (inr b) = is.one_head i j h (stood i a p) (stood j b q)

        pub AreHeads-alone : AreHeads (finite.insert heads ix hash) (finite.insert filed ix hash) nexts prevs
        AreHeads-alone = record {
          chained = record {
            forth =
                LeadsBack-alone filed next prev nexts prevs ix hash absent is.chained.forth last next_stays prev_stays;
            back =
                LeadsBack-alone filed prev next prevs nexts ix hash absent is.chained.back first prev_stays next_stays;
            acyclic = alone_rising;
            not_sentinel = named_new;
          };
          firsts = alone_firsts;
          one_head = alone_one_head;
        }

    -- behind a head, before the index that followed it
    module _
        (head follower : ℕ) (leads : finite.get heads head ≡ Some hash) (follows : next head ≡ follower)
        (next_head : nexts head ≡ ix) (next_ix : nexts ix ≡ follower) (prev_ix : prevs ix ≡ head)
        (prev_follower : follower ≢ sentinel → prevs follower ≡ ix)
        (next_stays : (j : ℕ) → j ≢ ix → j ≢ head → nexts j ≡ next j)
        (prev_stays : (j : ℕ) → j ≢ sentinel → j ≢ ix → j ≢ follower → prevs j ≡ prev j)
      where
        head_filed : finite.get filed head ≡ Some hash
        head_filed = ((is.firsts head hash).0 leads).0

        head_apart : head ≢ ix
        head_apart = apart_from_absent filed ix absent head hash head_filed

        head_named : head ≢ sentinel
        head_named = is.chained.not_sentinel head (filed_at _ hash head_filed)

        -- the follower, if there is one, stood behind the head
        behind : follower ≢ sentinel → (finite.get filed follower ≡ Some hash) × (prev follower ≡ head)
        behind there =
            subst (λ k. (finite.get filed k ≡ Some hash) × (prev k ≡ head)) follows
            (is.chained.forth head hash head_filed (λ none. there (sym follows ∙ none)))

        stood : (j h : ℕ) → j ≢ ix → finite.get (finite.insert filed ix hash) j ≡ Some h → finite.get filed j ≡ Some h
        stood j h other given = sym (get-insert_other filed ix hash j other) ∙ given

        -- the index's hash after the insert
        hash_at : (j h : ℕ) → j ≡ ix → finite.get (finite.insert filed ix hash) j ≡ Some h → h ≡ hash
        hash_at j h same given =
            one_hash _ h hash given (ap (finite.get (finite.insert filed ix hash)) same ∙ get-insert_at filed ix hash)

        stays : (j h : ℕ) → finite.get filed j ≡ Some h → finite.get (finite.insert filed ix hash) j ≡ Some h
        stays j h here = get-insert_other filed ix hash j (apart_from_absent filed ix absent j h here) ∙ here

        behind_forth :
            (j h : ℕ)
            → finite.get (finite.insert filed ix hash) j ≡ Some h
            → nexts j ≢ sentinel
            → (finite.get (finite.insert filed ix hash) (nexts j) ≡ Some h) × (prevs (nexts j) ≡ j)
        behind_forth j h given goes =
            elim (cases_eq j ix) [
              | inl same ↦
                  let there : follower ≢ sentinel = λ none. goes (ap nexts same ∙ next_ix ∙ none) in
                  rw (same, next_ix, hash_at j h same given) (stays follower hash (behind there).0, prev_follower there)
              | inr other ↦
                  let here = stood j h other given in
                  elim (cases_eq j head) [
                    | inl same ↦
                        let hashed : h ≡ hash = one_hash _ h hash here (ap (finite.get filed) same ∙ head_filed) in
                        rw (same, next_head, hashed) (get-insert_at filed ix hash, prev_ix)
                    | inr apart ↦
                        let on = next_stays j other apart in
                        let (there, back) = is.chained.forth j h here (λ none. goes (on ∙ none)) in
                        let new = apart_from_absent filed ix absent (next j) h there in
                        let named_next = is.chained.not_sentinel (next j) (filed_at _ h there) in
                        let unlike : next j ≢ follower =
                        λ same. apart (sym back ∙ ap prev same ∙ (behind (λ none. named_next (same ∙ none))).1) in
                        rw on (stays (next j) h there, prev_stays (next j) named_next new unlike ∙ back)
                  ]
            ]

        behind_back :
            (j h : ℕ)
            → finite.get (finite.insert filed ix hash) j ≡ Some h
            → prevs j ≢ sentinel
            → (finite.get (finite.insert filed ix hash) (prevs j) ≡ Some h) × (nexts (prevs j) ≡ j)
        behind_back j h given goes =
            elim (cases_eq j ix) [
              | inl same ↦ rw (same, prev_ix, hash_at j h same given) (stays head hash head_filed, next_head)
              | inr other ↦
                  let here = stood j h other given in
                  let there = is.chained.not_sentinel j (filed_at _ h here) in
                  elim (cases_eq j follower) [
                    | inl same ↦
                        let seen : follower ≢ sentinel = λ none. there (same ∙ none) in
                        let hashed : h ≡ hash = one_hash _ h hash here (ap (finite.get filed) same ∙ (behind seen).0) in
                        rw (same, prev_follower seen, hashed) (get-insert_at filed ix hash, next_ix)
                    | inr apart ↦
                        let on = prev_stays j there other apart in
                        let (before, forth) = is.chained.back j h here (λ none. goes (on ∙ none)) in
                        let new = apart_from_absent filed ix absent (prev j) h before in
                        let unlike : prev j ≢ head = λ same. apart (sym forth ∙ ap next same ∙ follows) in
                        rw on (stays (prev j) h before, next_stays (prev j) new unlike ∙ forth)
                  ]
            ]

        behind_depth : ℕ → ℕ
        behind_depth j = if j == ix then 2 * is.chained.acyclic.depth head + 1 else 2 * is.chained.acyclic.depth j

        depth_at : behind_depth ix ≡ 2 * is.chained.acyclic.depth head + 1
        unfolding behind_depth
        depth_at = rw (eq-eqb ix ix refl) refl

        depth_other : (j : ℕ) → j ≢ ix → behind_depth j ≡ 2 * is.chained.acyclic.depth j
        unfolding behind_depth
        depth_other j other = rw (differs j ix other) refl

        behind_rises :
            (j : ℕ)
            → IsSome (finite.get (finite.insert filed ix hash) j)
            → nexts j ≢ sentinel
            → behind_depth j < behind_depth (nexts j)
        behind_rises j given goes =
            let was = is.chained.acyclic in
            elim (cases_eq j ix) [
              | inl same ↦
                  let there : follower ≢ sentinel = λ none. goes (ap nexts same ∙ next_ix ∙ none) in
                  let apart = apart_from_absent filed ix absent follower hash (behind there).0 in
                  let less = was.rises head (filed_at _ hash head_filed) (λ none. there (sym follows ∙ none)) in
                  let rose : was.depth head < was.depth follower =
                  subst (λ k. was.depth head < was.depth k) follows less in
                  rw (same, next_ix, depth_at, depth_other follower apart) (omega (arith, rose))
              | inr other ↦
                  let (h, given_hash) = filed_hash _ given in
                  let here = stood j h other given_hash in
                  elim (cases_eq j head) [
                    | inl same ↦ rw (same, next_head, depth_at, depth_other head head_apart) (omega (arith))
                    | inr apart ↦
                        let on = next_stays j other apart in
                        let goes_on : next j ≢ sentinel = λ none. goes (on ∙ none) in
                        let there = (is.chained.forth j h here goes_on).0 in
                        let new = apart_from_absent filed ix absent (next j) h there in
                        let rose = was.rises j (filed_at _ h here) goes_on in
                        rw (on, depth_other j other, depth_other (next j) new) (omega (arith, rose))
                  ]
            ]

        behind_below :
            (j : ℕ)
            → IsSome (finite.get (finite.insert filed ix hash) j)
            → behind_depth j < 2 * is.chained.acyclic.top
        behind_below j given =
            let was = is.chained.acyclic in
            elim (cases_eq j ix) [
              | inl same ↦
                  let less = was.below head (filed_at _ hash head_filed) in
                  rw (same, depth_at) (omega (arith, less))
              | inr other ↦
                  let less = was.below j (subst IsSome (get-insert_other filed ix hash j other) given) in
                  rw (depth_other j other) (omega (arith, less))
            ]

        -- a head comes first and is no follower
        head_stays :
            (j h : ℕ)
            → finite.get heads j ≡ Some h
            → (finite.get (finite.insert filed ix hash) j ≡ Some h) × (prevs j ≡ sentinel)
        head_stays j h first =
            let (here, before) = (is.firsts j h).0 first in
            let there = is.chained.not_sentinel j (filed_at _ h here) in
            let new = apart_from_absent filed ix absent j h here in
            let unlike : j ≢ follower =
            λ same. head_named (sym (behind (λ none. there (same ∙ none))).1 ∙ ap prev (sym same) ∙ before) in
            (stays j h here, prev_stays j there new unlike ∙ before)

        head_was :
            (j h : ℕ)
            → (finite.get (finite.insert filed ix hash) j ≡ Some h) × (prevs j ≡ sentinel)
            → finite.get heads j ≡ Some h
        head_was j h given =
            elim (cases_eq j ix) [
              | inl same ↦ absurd (head_named (sym prev_ix ∙ ap prevs (sym same) ∙ given.1))
              | inr other ↦
                  let here = stood j h other given.0 in
                  let there = is.chained.not_sentinel j (filed_at _ h here) in
                  elim (cases_eq j follower) [
                    | inl same ↦
                        absurd (named (sym (prev_follower (λ none. there (same ∙ none))) ∙ ap prevs (sym same)
                        ∙ given.1))
                    | inr apart ↦ (is.firsts j h).1 (here, sym (prev_stays j there other apart) ∙ given.1)
                  ]
            ]

        pub AreHeads-behind : AreHeads heads (finite.insert filed ix hash) nexts prevs
        AreHeads-behind = record {
          chained = record {
            forth = behind_forth;
            back = behind_back;
            acyclic = record {
              depth = behind_depth;
              top = 2 * is.chained.acyclic.top;
              below = behind_below;
              rises = behind_rises;
            };
            not_sentinel = named_new;
          };
          firsts = λ j h. (head_stays j h, head_was j h);
          one_head = is.one_head;
        }
