-- The steps by which an index is put into a list of links: alone under its hash, or behind the head of its hash.
use Rattle.std.proofs.Common.{◌≡◌, ◌≢◌, ◌∙◌, inl, inr, ◌==◌, ◌∷◌, if◌then◌else◌, ℕ, List, [], Some, None, IsSome, Contains, refl, sym, subst}
use Rattle.std.specs.List.Sorted.{IsPermutation}
use Rattle.std.specs.Ordering.{nat_cmp}
use Rattle.std.specs.FinMap as finite
use Rattle.std.specs.FinMap.{FinMap}
use Rattle.std.proofs.lemmas.List.Sorted.{IsPermutation-sym, Contains-permutation}
use Rattle.std.proofs.lemmas.Bool.{cases_eq}
use Rattle.iddqd.specs.Store.{sentinel}
use Rattle.iddqd.proofs.StoreLemmas.{contains_head, contains_none}
use Rattle.iddqd_hash.specs.MapHashTable.{indexes_under}
use Rattle.iddqd_hash.proofs.FiledLemmas.{filed_from_under, under_from_filed}
use Rattle.iddqd_hash.proofs.MemberLemmas.{get-insert_at, get-insert_other, filed_at}
use Rattle.iddqd_groups.specs.Links.{filed_by, next_of, prev_of, next_behind, prev_behind}
use Rattle.iddqd_groups.specs.LinkedTable.{AreHeadsOf}
use Rattle.iddqd_groups.specs.declared.linked_table.links.Link.{Link}
use Rattle.iddqd_groups.proofs.InsertLinkLemmas.{AreHeads-alone, AreHeads-behind, apart_from_absent}
use Rattle.iddqd_groups.proofs.UnlinkLemmas.{at_place, at_other}

-- what a map has, it has after an insert
pub stays_filed :
    (m : FinMap nat_cmp ℕ) (ix hash j : ℕ)
    → IsSome (finite.get m j)
    → IsSome (finite.get (finite.insert m ix hash) j)
stays_filed m ix hash j here =
    elim (cases_eq j ix) [
      | inl same ↦ rw (same, get-insert_at m ix hash) refl
      | inr other ↦ rw (get-insert_other m ix hash j other) here
    ]

-- the first of the indexes under a hash, if there is one
module _ (heads : FinMap nat_cmp ℕ) (hash : ℕ) (under : List ℕ) where
  pub head_under :
      (head : ℕ) (rest : List ℕ)
      → IsPermutation (indexes_under hash heads) under
      → under ≡ head ∷ rest
      → finite.get heads head ≡ Some hash
  head_under head rest moved is =
      let here : Contains under head = rw is (contains_head head rest) in
      filed_from_under heads hash head (Contains-permutation _ _ head (IsPermutation-sym _ _ moved) here)

  pub none_under :
      IsPermutation (indexes_under hash heads) under
      → under ≡ []
      → (ix : ℕ)
      → finite.get heads ix ≡ Some hash
      → ⊥
  none_under moved is ix led =
      let here : Contains under ix = Contains-permutation _ _ ix moved (under_from_filed heads hash ix led) in
      contains_none ix (subst (λ xs. Contains xs ix) is here)

module _ (heads : FinMap nat_cmp ℕ) (old : List Link) (is : AreHeadsOf heads old) where
  pub head_filed : (head hash : ℕ) → finite.get heads head ≡ Some hash → finite.get (filed_by old) head ≡ Some hash
  head_filed head hash led = ((is.firsts head hash).0 led).0

  pub follower_filed :
      (head hash : ℕ)
      → finite.get heads head ≡ Some hash
      → next_of old head ≢ sentinel
      → IsSome (finite.get (filed_by old) (next_of old head))
  follower_filed head hash led there =
      filed_at _ hash (is.chained.forth head hash (head_filed head hash led) there).0

  pub unfiled_head : (ix : ℕ) → finite.get (filed_by old) ix ≡ None → finite.get heads ix ≡ None
  unfiled_head ix absent =
      elim (finite.get heads ix) as (λ o. finite.get heads ix ≡ o → o ≡ None) [
        | Some hash ↦ λ led. absurd (apart_from_absent (filed_by old) ix absent ix hash (head_filed ix hash led) refl)
        | None ↦ λ _. refl
      ] refl

  module _
      (ix hash : ℕ) (absent : finite.get (filed_by old) ix ≡ None) (named : ix ≢ sentinel) (new : List Link)
      (filed_new : filed_by new ≡ finite.insert (filed_by old) ix hash)
    where
      pub AreHeadsOf-put_alone :
          ((j : ℕ) → finite.get heads j ≡ Some hash → ⊥)
          → ((j : ℕ) → next_of new j ≡ (if j == ix then sentinel else next_of old j))
          → ((j : ℕ) → prev_of new j ≡ (if j == ix then sentinel else prev_of old j))
          → AreHeadsOf (finite.insert heads ix hash) new
      AreHeadsOf-put_alone alone next prev =
          rw filed_new (AreHeads-alone heads (filed_by old) (next_of old) (prev_of old) (next_of new)
          (prev_of new) is ix hash absent named alone (next ix ∙ at_place ix sentinel _)
          (prev ix ∙ at_place ix sentinel _) (λ j other. next j ∙ at_other j ix sentinel _ other)
          (λ j other. prev j ∙ at_other j ix sentinel _ other))

      module _
          (head : ℕ) (led : finite.get heads head ≡ Some hash)
          (next : (j : ℕ) → next_of new j ≡ next_behind head ix (next_of old head) (next_of old) j)
          (prev : (j : ℕ) → j ≢ sentinel → prev_of new j ≡ prev_behind head ix (next_of old head) (prev_of old) j)
        where
          apart : ix ≢ head
          apart same = apart_from_absent (filed_by old) ix absent head hash (head_filed head hash led) (sym same)

          unlike : ix ≢ next_of old head
          unlike same =
              let there : next_of old head ≢ sentinel = λ none. named (same ∙ none) in
              let follows = (is.chained.forth head hash (head_filed head hash led) there).0 in
              apart_from_absent (filed_by old) ix absent (next_of old head) hash follows (sym same)

          pub AreHeadsOf-put_behind : AreHeadsOf heads new
          AreHeadsOf-put_behind =
              rw filed_new (AreHeads-behind heads (filed_by old) (next_of old) (prev_of old) (next_of new)
              (prev_of new) is ix hash absent named head (next_of old head) led refl (next head ∙ at_place head ix _)
              (next ix ∙ at_other ix head ix _ apart ∙ at_place ix (next_of old head) _)
              (prev ix named ∙ at_other ix (next_of old head) ix _ unlike ∙ at_place ix head _)
              (λ there. prev (next_of old head) there ∙ at_place (next_of old head) ix _)
              (λ j other away. next j ∙ at_other j head ix _ away ∙ at_other j ix (next_of old head) _ other)
              (λ j there other away. prev j there ∙ at_other j (next_of old head) ix _ away
              ∙ at_other j ix head _ other))
