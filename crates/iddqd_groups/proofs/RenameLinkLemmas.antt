-- The chains after each index was given its new name.
use Rattle.std.proofs.Common.{◌≡◌, ◌≢◌, ◌∙◌, ◌↔◌, inl, inr, ℕ, ◌<◌, Option, Some, None, IsSome, refl, sym, ap, subst, arith, eq-eqb}
use Rattle.std.specs.Ordering.{nat_cmp}
use Rattle.std.specs.FinMap as finite
use Rattle.std.specs.FinMap.{FinMap}
use Rattle.std.proofs.lemmas.Bool.{cases_eq}
use Rattle.iddqd.specs.Store.{sentinel}
use Rattle.iddqd.proofs.StoreLemmas.{differs}
use Rattle.iddqd_hash.specs.MapHashTable.{HaveOwnNames, Renames}
use Rattle.iddqd_hash.proofs.MemberLemmas.{filed_hash, filed_at}
use Rattle.iddqd_groups.specs.Links.{IsChained, AreHeads, LeadsBack, AreNeighbours, renamed}

-- no neighbour keeps being none, and another one gets its new name
pub renamed_none : (name : ℕ → ℕ) (ix : ℕ) → ix ≡ sentinel → renamed name ix ≡ sentinel
renamed_none name ix none = rw (eq-eqb ix sentinel none) refl

pub renamed_some : (name : ℕ → ℕ) (ix : ℕ) → ix ≢ sentinel → renamed name ix ≡ name ix
renamed_some name ix there = rw (differs ix sentinel there) refl

-- a head is an index of the table
pub head_is_filed :
    {heads filed : FinMap nat_cmp ℕ} {next prev : ℕ → ℕ}
    → AreHeads heads filed next prev
    → (ix : ℕ)
    → IsSome (finite.get heads ix)
    → IsSome (finite.get filed ix)
head_is_filed is ix here =
    let (hash, led) = filed_hash _ here in
    filed_at _ hash ((is.firsts ix hash).0 led).0

-- what chains say of neighbours
pub AreNeighbours-chained :
    (filed : FinMap nat_cmp ℕ) (next prev : ℕ → ℕ)
    → IsChained filed next prev
    → AreNeighbours filed next prev
AreNeighbours-chained filed next prev is = record {
  nexts = λ ix here goes.
      let (hash, hashed) = filed_hash _ here in
      filed_at _ hash (is.forth ix hash hashed goes).0;
  prevs = λ ix here goes.
      let (hash, hashed) = filed_hash _ here in
      filed_at _ hash (is.back ix hash hashed goes).0;
  others = λ ix here same.
      let (hash, hashed) = filed_hash _ here in
      let named = is.not_sentinel ix here in
      let loops = (is.back ix hash hashed (λ none. named (sym same ∙ none))).1 in
      let goes : next ix ≡ ix = ap next (sym same) ∙ loops in
      let rose = is.acyclic.rises ix here (λ none. named (sym goes ∙ none)) in
      let never : is.acyclic.depth ix < is.acyclic.depth ix =
      subst (λ k. is.acyclic.depth ix < is.acyclic.depth k) goes rose in
      omega (arith, never);
  not_sentinel = is.not_sentinel;
}

-- a neighbour that has a new name was one
was_neighbour : (name : ℕ → ℕ) (ix : ℕ) → renamed name ix ≢ sentinel → ix ≢ sentinel
was_neighbour name ix there none = there (renamed_none name ix none)

LeadsBack-named :
    (name : ℕ → ℕ) (filed filed_new : FinMap nat_cmp ℕ) (there back there' back' : ℕ → ℕ)
    → Renames name filed filed_new
    → ((ix : ℕ) → IsSome (finite.get filed ix) → ix ≢ sentinel)
    → LeadsBack filed there back
    → ((ix : ℕ) → IsSome (finite.get filed ix) → there' (name ix) ≡ renamed name (there ix))
    → ((ix : ℕ) → IsSome (finite.get filed ix) → back' (name ix) ≡ renamed name (back ix))
    → LeadsBack filed_new there' back'
LeadsBack-named name filed filed_new there back there' back' named real was there_named back_named at h given goes =
    let (ix, same, here) = named.no_other at h given in
    let on : there' at ≡ renamed name (there ix) = ap there' (sym same) ∙ there_named ix (filed_at _ h here) in
    let follows = was_neighbour name (there ix) (λ none. goes (on ∙ none)) in
    let (leads, returns) = was ix h here follows in
    let named_on : there' at ≡ name (there ix) = on ∙ renamed_some name (there ix) follows in
    let ix_real = real ix (filed_at _ h here) in
    let back_on : back' (name (there ix)) ≡ at =
    back_named (there ix) (filed_at _ h leads) ∙ ap (renamed name) returns ∙ renamed_some name ix ix_real ∙ same in
    rw named_on (named.each (there ix) h leads, back_on)

module _
    (name : ℕ → ℕ) (heads filed heads_new filed_new : FinMap nat_cmp ℕ) (next prev nexts prevs : ℕ → ℕ)
    (is : AreHeads heads filed next prev)
    (heads_named : Renames name heads heads_new)
    (filed_named : Renames name filed filed_new)
    (next_named : (ix : ℕ) → IsSome (finite.get filed ix) → nexts (name ix) ≡ renamed name (next ix))
    (prev_named : (ix : ℕ) → IsSome (finite.get filed ix) → prevs (name ix) ≡ renamed name (prev ix))
    (one_name : HaveOwnNames name filed)
    (real : (ix : ℕ) → IsSome (finite.get filed ix) → name ix ≢ sentinel)
  where
    -- the depth that an index had under its old name
    depth_by : (at : ℕ) (o : Option ℕ) → finite.get filed_new at ≡ o → ℕ
    depth_by at None _ = 0
    depth_by at (Some h) given = is.chained.acyclic.depth (filed_named.no_other at h given).0

    depth_new : ℕ → ℕ
    depth_new at = depth_by at (finite.get filed_new at) refl

    depth_by-name :
        (ix h : ℕ)
        → finite.get filed ix ≡ Some h
        → (o : Option ℕ) (given : finite.get filed_new (name ix) ≡ o)
        → depth_by (name ix) o given ≡ is.chained.acyclic.depth ix
    unfolding depth_by
    depth_by-name ix h here None given =
        absurd (let never : None ≡ Some h = sym given ∙ filed_named.each ix h here in cc)
    depth_by-name ix h here (Some other) given =
        let (old, same, stood) = filed_named.no_other (name ix) other given in
        ap is.chained.acyclic.depth (one_name old ix (filed_at _ other stood) (filed_at _ h here) same)

    depth_new-name : (ix h : ℕ) → finite.get filed ix ≡ Some h → depth_new (name ix) ≡ is.chained.acyclic.depth ix
    unfolding depth_new
    depth_new-name ix h here = depth_by-name ix h here (finite.get filed_new (name ix)) refl

    named_below : (at : ℕ) → IsSome (finite.get filed_new at) → depth_new at < is.chained.acyclic.top
    named_below at given =
        let (h, hashed) = filed_hash _ given in
        let (ix, same, here) = filed_named.no_other at h hashed in
        rw (sym same, depth_new-name ix h here) (is.chained.acyclic.below ix (filed_at _ h here))

    named_rises :
        (at : ℕ)
        → IsSome (finite.get filed_new at)
        → nexts at ≢ sentinel
        → depth_new at < depth_new (nexts at)
    named_rises at given goes =
        let (h, hashed) = filed_hash _ given in
        let (ix, same, here) = filed_named.no_other at h hashed in
        let on : nexts at ≡ renamed name (next ix) = ap nexts (sym same) ∙ next_named ix (filed_at _ h here) in
        let follows = was_neighbour name (next ix) (λ none. goes (on ∙ none)) in
        let there = (is.chained.forth ix h here follows).0 in
        let low : depth_new at ≡ is.chained.acyclic.depth ix = ap depth_new (sym same) ∙ depth_new-name ix h here in
        let high : depth_new (nexts at) ≡ is.chained.acyclic.depth (next ix) =
        ap depth_new (on ∙ renamed_some name (next ix) follows) ∙ depth_new-name (next ix) h there in
        rw (low, high) (is.chained.acyclic.rises ix (filed_at _ h here) follows)

    named_firsts :
        (at h : ℕ)
        → finite.get heads_new at ≡ Some h ↔ ((finite.get filed_new at ≡ Some h) × (prevs at ≡ sentinel))
    named_firsts at h = (
      λ leads.
          let (ix, same, was) = heads_named.no_other at h leads in
          let (here, first) = (is.firsts ix h).0 was in
          let on : prevs at ≡ sentinel =
          ap prevs (sym same) ∙ prev_named ix (filed_at _ h here) ∙ renamed_none name (prev ix) first in
          (subst (λ k. finite.get filed_new k ≡ Some h) same (filed_named.each ix h here), on),
      λ given.
          let (ix, same, here) = filed_named.no_other at h given.0 in
          let on : renamed name (prev ix) ≡ sentinel =
          sym (prev_named ix (filed_at _ h here)) ∙ ap prevs same ∙ given.1 in
          let first : prev ix ≡ sentinel = first_was ix h here on in
          subst (λ k. finite.get heads_new k ≡ Some h) same (heads_named.each ix h ((is.firsts ix h).1 (here, first))),
    )
      where
        first_was : (ix h : ℕ) → finite.get filed ix ≡ Some h → renamed name (prev ix) ≡ sentinel → prev ix ≡ sentinel
        first_was ix h here on =
            elim (cases_eq (prev ix) sentinel) [
              | inl first ↦ first
              | inr leads ↦
                  let there = (is.chained.back ix h here leads).0 in
                  absurd (real (prev ix) (filed_at _ h there) (sym (renamed_some name (prev ix) leads) ∙ on))
            ]

    pub AreHeads-renamed : AreHeads heads_new filed_new nexts prevs
    AreHeads-renamed = record {
      chained = record {
        forth =
            LeadsBack-named name filed filed_new next prev nexts prevs filed_named is.chained.not_sentinel is.chained.forth
            next_named prev_named;
        back =
            LeadsBack-named name filed filed_new prev next prevs nexts filed_named is.chained.not_sentinel is.chained.back
            prev_named next_named;
        acyclic = record {
          depth = depth_new;
          top = is.chained.acyclic.top;
          below = named_below;
          rises = named_rises;
        };
        not_sentinel = λ at given.
            let (h, hashed) = filed_hash _ given in
            let (ix, same, here) = filed_named.no_other at h hashed in
            subst (λ k. k ≢ sentinel) same (real ix (filed_at _ h here));
      };
      firsts = named_firsts;
      one_head = λ i j h p q.
          let (a, named_a, was_a) = heads_named.no_other i h p in
          let (b, named_b, was_b) = heads_named.no_other j h q in
          sym named_a ∙ ap name (is.one_head a b h was_a was_b) ∙ named_b;
    }
