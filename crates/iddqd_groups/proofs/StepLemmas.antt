-- What comes behind an index under its hash, and that it stays when the index is removed.
use Rattle.std.proofs.Common.{◌≡◌, ◌≢◌, ◌∙◌, inl, inr, ◌<◌, ℕ, zero, suc, Bool, true, false, List, [], ◌∷◌, length, slice_index_or, Option, Some, None, MatchOption, Contains, refl, sym, ap, subst, arith}
use Rattle.std.specs.List.Sorted.{IsPermutation}
use Rattle.std.specs.Ordering.{nat_cmp}
use Rattle.std.specs.FinMap as finite
use Rattle.std.specs.FinMap.{FinMap}
use Rattle.std.proofs.lemmas.Bool.{cases_eq}
use Rattle.std.proofs.lemmas.List.{length-map}
use Rattle.iddqd.specs.Store.{Store, removed, sentinel}
use Rattle.iddqd.proofs.LiveLemmas.{get-removed_other}
use Rattle.iddqd.proofs.StoreLemmas.{contains_head, contains_tail, contains_none}
use Rattle.iddqd_hash.proofs.MemberLemmas.{filed_at}
use Rattle.iddqd_hash.specs.MapHashTable.{indexes_under}
use Rattle.iddqd_by_hash.specs.Hashed.{passes}
use Rattle.iddqd_groups.specs.HashedGroup.{hits_among, hits_behind}
use Rattle.iddqd_groups.specs.LinkedTable.{AreHeadsOf, LinkedState, behind, nexts_of}
use Rattle.iddqd_groups.specs.Links.{AreUnder, absent_link, chain, filed_by, next_of, prev_of}
use Rattle.iddqd_groups.specs.declared.linked_table.links.Link.{Link}
use Rattle.iddqd_groups.proofs.ChainLemmas.{AreUnder-none, EndsWithin-filed, IsStart-head, chain-go, chain-step, chain-stop, members}
use Rattle.iddqd_groups.proofs.GroupLemmas.{filter-passed, filter-refused, was_there}
use Rattle.iddqd_groups.proofs.LinkLemmas.{head_under, none_under}
use Rattle.iddqd_groups.proofs.LinksLemmas.{below-filed_by}
use Rattle.iddqd_map.specs.Groups.{AreHits, FindsSome, listed_from}

-- what the list of next indexes says is what the links say
at_next :
    (links : List Link) (ix : ℕ) (link : Link)
    → link.next ≡ sentinel
    → slice_index_or (nexts_of links) ix sentinel ≡ (slice_index_or links ix link).next
at_next [] ix link none = sym none
at_next (l ∷ links) zero link none = refl
at_next (l ∷ links) (suc ix) link none = at_next links ix link none

next_read : (links : List Link) (ix : ℕ) → slice_index_or (nexts_of links) ix sentinel ≡ next_of links ix
next_read links ix = at_next links ix (absent_link ix) refl

-- the indexes behind an index, by the links
abbrev pub behind_by : List Link → ℕ → List ℕ
behind_by links ix =
    let next = λ (j : ℕ). slice_index_or (nexts_of links) j sentinel in
    chain next (length (nexts_of links)) (next ix)

behind_by-chain :
    (links : List Link) (ix : ℕ)
    → behind_by links ix ≡ chain (next_of links) (length links) (next_of links ix)
behind_by-chain links ix = λ i. chain (λ j. next_read links j i) (length-map links (λ (l : Link). l.next) i) (next_read links ix i)

-- a chain whose members lead on to the same indexes
chain-same :
    (next next' : ℕ → ℕ) (most ix : ℕ)
    → ((j : ℕ) → Contains (chain next most ix) j → next' j ≡ next j)
    → chain next' most ix ≡ chain next most ix
chain-same next next' zero ix same = refl
chain-same next next' (suc most) ix same = elim (cases_eq ix sentinel) [
  | inl last ↦ chain-stop next' (suc most) ix last ∙ sym (chain-stop next (suc most) ix last)
  | inr there ↦
      let whole = chain-go next most ix there in
      let listed : (j : ℕ) → Contains (ix ∷ chain next most (next ix)) j → next' j ≡ next j =
      λ j here. same j (subst (λ l. Contains l j) (sym whole) here) in
      chain-go next' most ix there
      ∙ ap (λ n. ix ∷ chain next' most n) (listed ix (contains_head ix (chain next most (next ix))))
      ∙ ap (λ l. ix ∷ l) (chain-same next next' most (next ix)
      (λ j here. listed j (contains_tail ix j (chain next most (next ix)) here)))
      ∙ sym whole
]

-- the index that is read, as the next one
abbrev pub next_read_as : ℕ → Option ℕ → Type 0
next_read_as n None = n ≡ sentinel
next_read_as n (Some ix) = (n ≢ sentinel) × (ix ≡ n)

module _ (heads : FinMap nat_cmp ℕ) (links : List Link) (is : AreHeadsOf heads links) where
  -- the chain from the next index ends
  behind-step :
      (ix hash : ℕ)
      → finite.get (filed_by links) ix ≡ Some hash
      → chain (next_of links) (length links) ix ≡ ix ∷ chain (next_of links) (length links) (next_of links ix)
  behind-step ix hash here =
      let ends =
      EndsWithin-filed (filed_by links) (next_of links) (prev_of links) is.chained (length links) (below-filed_by links) ix hash here in
      chain-step (next_of links) (length links) (length links) ix ends (is.chained.not_sentinel ix (filed_at _ hash here))

  -- the indexes under a hash are its head and those behind it
  pub AreUnder-first :
      (hash : ℕ) (under rest : List ℕ) (first : Option ℕ)
      → IsPermutation (indexes_under hash heads) under
      → MatchOption first ((under ≡ []) × (rest ≡ [])) (λ head. under ≡ head ∷ rest)
      → AreUnder (filed_by links) hash (listed_from (behind_by links) first)
  AreUnder-first hash under rest None moved none =
      let alone =
      AreUnder-none heads (filed_by links) (next_of links) (prev_of links) is (length links) hash 0 sentinel
      (none_under heads hash under moved none.0) refl in
      alone
  AreUnder-first hash under rest (Some head) moved first =
      let led = head_under heads hash under head rest moved first in
      let here = ((is.firsts head hash).0 led).0 in
      subst (AreUnder (filed_by links) hash)
      (behind-step head hash here ∙ ap (λ l. head ∷ l) (sym (behind_by-chain links head)))
      (IsStart-head heads links is hash head led).under

  -- what comes behind an index has its hash, and is deeper
  deeper :
      (ix hash : ℕ)
      → finite.get (filed_by links) ix ≡ Some hash
      → (j : ℕ)
      → Contains (behind_by links ix) j
      → (finite.get (filed_by links) j ≡ Some hash) × (is.chained.acyclic.depth ix < is.chained.acyclic.depth j)
  deeper ix hash here j listed =
      let next = next_of links in
      let along = subst (λ l. Contains l j) (behind_by-chain links ix) listed in
      elim (cases_eq (next ix) sentinel) [
        | inl last ↦ absurd (contains_none j (subst (λ l. Contains l j) (chain-stop next (length links) (next ix) last) along))
        | inr goes ↦
            let follows = (is.chained.forth ix hash here goes).0 in
            let rose = is.chained.acyclic.rises ix (filed_at _ hash here) goes in
            let (has, least) =
            members (filed_by links) next (prev_of links) is.chained (length links) (next ix) hash j follows along in
            (has, omega (arith, rose, least))
      ]

  module _ (ix hash : ℕ) (here : finite.get (filed_by links) ix ≡ Some hash) where
    pub behind-alike : (j : ℕ) → Contains (behind_by links ix) j → finite.get (filed_by links) j ≡ Some hash
    behind-alike j listed = (deeper ix hash here j listed).0

    -- the next index, and those behind it
    pub behind-next :
        (r : Option ℕ)
        → next_read_as (next_of links ix) r
        → behind_by links ix ≡ listed_from (behind_by links) r
    behind-next None last = behind_by-chain links ix ∙ chain-stop (next_of links) (length links) (next_of links ix) last
    behind-next (Some next) (goes, same) =
        let follows = (is.chained.forth ix hash here goes).0 in
        behind_by-chain links ix ∙ behind-step (next_of links ix) hash follows
        ∙ ap (λ l. next_of links ix ∷ l) (sym (behind_by-chain links (next_of links ix)))
        ∙ ap (λ j. j ∷ behind_by links j) (sym same)

    -- where the index is removed, all behind it stay in their order
    module _
        (new : List Link) (long : length new ≡ length links)
        (stays : (j : ℕ) → j ≢ sentinel → j ≢ ix → j ≢ prev_of links ix → next_of new j ≡ next_of links j)
      where
        stays-deeper :
            (j : ℕ)
            → finite.get (filed_by links) j ≡ Some hash
            → is.chained.acyclic.depth ix < is.chained.acyclic.depth j
            → next_of new j ≡ next_of links j
        stays-deeper j filed deep =
            let real = is.chained.not_sentinel in
            stays j (real j (filed_at _ hash filed))
            (λ same. (let never = subst (λ k. is.chained.acyclic.depth ix < is.chained.acyclic.depth k) same deep in omega (arith, never)))
            (λ same. elim (cases_eq (prev_of links ix) sentinel) [
              | inl none ↦ real j (filed_at _ hash filed) (same ∙ none)
              | inr goes ↦
                  let (before, forth) = is.chained.back ix hash here goes in
                  let rises =
                  is.chained.acyclic.rises (prev_of links ix) (filed_at _ hash before)
                  (λ none. real ix (filed_at _ hash here) (sym forth ∙ none)) in
                  let less : is.chained.acyclic.depth (prev_of links ix) < is.chained.acyclic.depth ix =
                  subst (λ k. is.chained.acyclic.depth (prev_of links ix) < is.chained.acyclic.depth k) forth rises in
                  let more = subst (λ k. is.chained.acyclic.depth ix < is.chained.acyclic.depth k) same deep in
                  omega (arith, less, more)
            ])

        pub behind-removed : (j : ℕ) → Contains (behind_by links ix) j → behind_by new j ≡ behind_by links j
        behind-removed j listed =
            let (filed, deep) = deeper ix hash here j listed in
            behind_by-chain new j
            ∙ ap (λ n. chain (next_of new) n (next_of new j)) long
            ∙ ap (chain (next_of new) (length links)) (stays-deeper j filed deep)
            ∙ chain-same (next_of links) (next_of new) (length links) (next_of links j)
            (λ k along.
            let (has, deep_k) = deeper j hash filed k (subst (λ l. Contains l k) (sym (behind_by-chain links j)) along) in
            stays-deeper k has (omega (arith, deep, deep_k)))
            ∙ sym (behind_by-chain links j)

    -- and none of them leads back to it
    pub behind-apart :
        (j : ℕ)
        → Contains (behind_by links ix) j
        → (k : ℕ)
        → Contains (behind_by links j) k
        → k ≢ ix
    behind-apart j listed k along = λ same.
        let (filed, deep) = deeper ix hash here j listed in
        let (has, deep_k) = deeper j hash filed k along in
        let never = subst (λ n. is.chained.acyclic.depth j < is.chained.acyclic.depth n) same deep_k in
        omega (arith, deep, never)

-- the first of all hits is one, and there is none where there is no first
pub FindsSome-listed :
    {T : Type 0} (s : Store T) (test : T → Bool) (after : ℕ → List ℕ) (r : Option ℕ)
    → AreHits s test (listed_from after r)
    → FindsSome s test r
FindsSome-listed s test after None hits = λ ix hit. contains_none ix ((hits.each ix).1 hit)
FindsSome-listed s test after (Some ix) hits = (hits.each ix).0 (contains_head ix (after ix))

-- the items behind an index that was removed are the same
pub hits-removed :
    {T : Type 0} (s : Store T) (test : T → Bool) (ix : ℕ) (indexes : List ℕ)
    → ((j : ℕ) → Contains indexes j → j ≢ ix)
    → hits_among (removed s ix) test indexes ≡ hits_among s test indexes
hits-removed s test ix [] apart = refl
hits-removed s test ix (j ∷ indexes) apart =
    let other = get-removed_other s ix j (apart j (contains_head j indexes)) in
    let same : passes (removed s ix) test j ≡ passes s test j = rw (passes, passes, other) refl in
    let rest = hits-removed s test ix indexes (λ k there. apart k (contains_tail j k indexes there)) in
    elim (passes s test j) as (λ b. passes s test j ≡ b → hits_among (removed s ix) test (j ∷ indexes) ≡ hits_among s test (j ∷ indexes)) [
      | true ↦ λ is.
          filter-passed (passes (removed s ix) test) j indexes (same ∙ is) ∙ ap (λ l. j ∷ l) rest
          ∙ sym (filter-passed (passes s test) j indexes is)
      | false ↦ λ is.
          filter-refused (passes (removed s ix) test) j indexes (same ∙ is) ∙ rest
          ∙ sym (filter-refused (passes s test) j indexes is)
    ] refl

-- what comes behind an index still does once that was removed
pub hits_behind-removed :
    {T : Type 0} (old new : LinkedState) (s : Store T) (test : T → Bool) (ix : ℕ) (r : Option ℕ)
    → ((j : ℕ) → Contains (behind old ix) j → behind new j ≡ behind old j)
    → ((j : ℕ) → Contains (behind old ix) j → (k : ℕ) → Contains (behind old j) k → k ≢ ix)
    → hits_behind old s test ix ≡ listed_from (hits_behind old s test) r
    → hits_behind old s test ix ≡ listed_from (hits_behind new (removed s ix) test) r
hits_behind-removed old new s test ix None stays apart same = same
hits_behind-removed old new s test ix (Some j) stays apart same =
    let listed = subst (λ l. Contains l j) (sym same) (contains_head j (hits_behind old s test j)) in
    let there = (was_there (passes s test) (behind old ix) j listed).0 in
    same
    ∙ ap (λ l. j ∷ l)
    (sym (ap (hits_among (removed s ix) test) (stays j there) ∙ hits-removed s test ix (behind old j) (apart j there)))
