-- How many slots are vacant, and that a chain with as many has each.
use Rattle.std.proofs.Common.{◌≡◌, ◌≢◌, ℕ, zero, suc, ◌+◌, ◌<◌, ◌≤◌, Bool, true, false, nat_eq, List, [], ◌∷◌, map, length, get_or, Some, None, is_some, count_by, cond, slice_get, refl, sym, subst, ◌∙◌, inl, inr, arith, zero-add, add-zero}
use Rattle.std.specs.List.{Contains, IsDistinct}
use Rattle.std.specs.Cmp.{nat_eq_equiv}
use Rattle.std.specs.Set.{is_member}
use Rattle.std.proofs.lemmas.Bool.Decides.{Decides-eqb}
use Rattle.std.proofs.lemmas.List.Elements.{recursion_from_All, Contains-get_or}
use Rattle.std.proofs.lemmas.List.Sums.{sum_by-cons}
use Rattle.std.proofs.lemmas.Map.Keys.{IsDistinct-cons}
use Rattle.std.proofs.lemmas.Map.Made.{is_member-Decides, length-le_from_is_member}
use Rattle.iddqd.specs.declared.item_set.ItemSlot.{ItemSlot}
use Rattle.iddqd.specs.declared.item_set.ItemSlot.TheVariants.{Occupied, Vacant}
use Rattle.iddqd.specs.Slots.{item_of, HasChain, IsChain, IsSound}
use Rattle.iddqd.specs.Store.{sentinel}
use Rattle.iddqd.proofs.StoreLemmas.{contains_head, contains_tail, contains_cases, contains_none, differs}
use Rattle.iddqd.proofs.ChainLemmas.{IsChain-distinct, IsChain-unique, IsChain-vacant}

-- distinct numbers that another list has are no more than its members
length_within :
    (xs ys : List ℕ)
    → IsDistinct nat_eq xs
    → ((x : ℕ) → Contains xs x → Contains ys x)
    → length xs ≤ length ys
length_within xs ys apart within =
    length-le_from_is_member nat_eq_equiv xs ys apart (λ x member. (is_member-Decides Decides-eqb ys x).1 (within x ((is_member-Decides Decides-eqb xs x).0 member)))

module _ {T : Type 0} where
  -- the indexes of the vacant slots, where the first slot has this index
  abbrev vacant_from : ℕ → List (ItemSlot T) → List ℕ
  vacant_from first [] = []
  vacant_from first (Occupied item ∷ rest) = vacant_from (first + 1) rest
  vacant_from first (Vacant next ∷ rest) = first ∷ vacant_from (first + 1) rest

  length-vacant_from :
      (first : ℕ) (slots : List (ItemSlot T))
      → length (vacant_from first slots) + count_by is_some (map item_of slots) ≡ length slots
  length-vacant_from first [] = refl
  length-vacant_from first (Occupied item ∷ rest) =
      omega (arith, length-vacant_from (first + 1) rest, sum_by-cons (λ o. cond (is_some o) 1 0) (Some item) (map item_of rest))
  length-vacant_from first (Vacant next ∷ rest) =
      omega (arith, length-vacant_from (first + 1) rest, sum_by-cons (λ o. cond (is_some o) 1 0) None (map item_of rest))

  listed_if_vacant :
      (first : ℕ) (slots : List (ItemSlot T)) (at ix next : ℕ)
      → ix ≡ first + at
      → slice_get slots at ≡ Some (Vacant next)
      → Contains (vacant_from first slots) ix
  listed_if_vacant first [] at ix next is found = absurd (cc)
  listed_if_vacant first (Occupied item ∷ rest) zero ix next is found = absurd (cc)
  listed_if_vacant first (Vacant link ∷ rest) zero ix next is found =
      subst (λ i. Contains (first ∷ vacant_from (first + 1) rest) i) (sym (is ∙ add-zero first)) (contains_head first (vacant_from (first + 1) rest))
  listed_if_vacant first (Occupied item ∷ rest) (suc at) ix next is found = listed_if_vacant (first + 1) rest at ix next (omega arith) found
  listed_if_vacant first (Vacant link ∷ rest) (suc at) ix next is found =
      contains_tail first ix (vacant_from (first + 1) rest) (listed_if_vacant (first + 1) rest at ix next (omega arith) found)

  vacant_if_listed :
      (first : ℕ) (slots : List (ItemSlot T)) (ix : ℕ)
      → Contains (vacant_from first slots) ix
      → (at : ℕ) × (ix ≡ first + at) × (next : ℕ) × (slice_get slots at ≡ Some (Vacant next))
  vacant_if_listed first [] ix listed = absurd (contains_none ix listed)
  vacant_if_listed first (Occupied item ∷ rest) ix listed =
      let later = vacant_if_listed (first + 1) rest ix listed in
      (suc later.0, omega (arith, later.1), later.2, later.3)
  vacant_if_listed first (Vacant next ∷ rest) ix listed =
      elim (contains_cases first ix (vacant_from (first + 1) rest) listed) [
        | inl same ↦ (0, omega arith, next, refl)
        | inr later ↦
            let there = vacant_if_listed (first + 1) rest ix later in
            (suc there.0, omega (arith, there.1), there.2, there.3)
      ]

  distinct-vacant_from : (first : ℕ) (slots : List (ItemSlot T)) → IsDistinct nat_eq (vacant_from first slots)
  unfolding IsDistinct
  distinct-vacant_from first [] = tt
  distinct-vacant_from first (Occupied item ∷ rest) = distinct-vacant_from (first + 1) rest
  distinct-vacant_from first (Vacant next ∷ rest) =
      IsDistinct-cons nat_eq first (vacant_from (first + 1) rest)
      (recursion_from_All (λ y. nat_eq first y ≡ false) (vacant_from (first + 1) rest) (λ k d inside. apart (get_or (vacant_from (first + 1) rest) k d) (Contains-get_or (vacant_from (first + 1) rest) k d inside)))
      (distinct-vacant_from (first + 1) rest)
    where
      apart : (ix : ℕ) → Contains (vacant_from (first + 1) rest) ix → nat_eq first ix ≡ false
      apart ix listed =
          let there = vacant_if_listed (first + 1) rest ix listed in
          differs first ix (omega (arith, there.1))

  -- distinct indexes of vacant slots are no more than those
  vacant_at_most :
      (slots : List (ItemSlot T)) (list : List ℕ)
      → IsDistinct nat_eq list
      → ((ix : ℕ) → Contains list ix → (next : ℕ) × (slice_get slots ix ≡ Some (Vacant next)))
      → length list + count_by is_some (map item_of slots) ≤ length slots
  vacant_at_most slots list apart vacant =
      let within = length_within list (vacant_from 0 slots) apart (λ ix listed. listed_if_vacant 0 slots ix ix (vacant ix listed).0 (omega arith) (vacant ix listed).1) in
      omega (arith, within, length-vacant_from 0 slots)

  -- sound parts have as many slots as items and links
  pub slots_counted :
      {slots : List (ItemSlot T)} {head len : ℕ} (sound : IsSound slots head len)
      → len + length sound.chain ≡ length slots
  slots_counted {slots} {head} {len} sound =
      let most = vacant_at_most slots sound.chain sound.distinct (λ ix listed. IsChain-vacant slots head sound.chain ix sound.chained listed) in
      let least = length_within (vacant_from 0 slots) sound.chain (distinct-vacant_from 0 slots) (λ ix listed. let there = vacant_if_listed 0 slots ix listed in sound.complete ix there.2 (subst (λ i. slice_get slots i ≡ Some (Vacant there.2)) (sym (there.1 ∙ zero-add there.0)) there.3)) in
      omega (arith, most, least, sound.counted, length-vacant_from 0 slots)

  -- distinct indexes of vacant slots, as many as there are, have each
  each_vacant :
      (slots : List (ItemSlot T)) (list : List ℕ)
      → IsDistinct nat_eq list
      → ((ix : ℕ) → Contains list ix → (next : ℕ) × (slice_get slots ix ≡ Some (Vacant next)))
      → length list + count_by is_some (map item_of slots) ≡ length slots
      → (ix next : ℕ)
      → slice_get slots ix ≡ Some (Vacant next)
      → Contains list ix
  each_vacant slots list apart vacant as_many ix next found = by_test (is_member nat_eq list ix) refl
    where
      one_more :
          is_member nat_eq list ix ≡ false
          → (k : ℕ) (d : ℕ)
          → k < length list
          → nat_eq ix (get_or list k d) ≡ false
      one_more other k d inside =
          differs ix (get_or list k d) (λ same.
          let member = (is_member-Decides Decides-eqb list ix).1 (subst (λ i. Contains list i) (sym same) (Contains-get_or list k d inside)) in
          cc)

      by_test : (b : Bool) → is_member nat_eq list ix ≡ b → Contains list ix
      by_test true member = (is_member-Decides Decides-eqb list ix).0 member
      by_test false other =
          let longer = vacant_at_most slots (ix ∷ list) (IsDistinct-cons nat_eq ix list (recursion_from_All (λ y. nat_eq ix y ≡ false) list (one_more other)) apart) (λ iy listed. elim (contains_cases ix iy list listed) [
            | inl same ↦ (next, subst (λ i. slice_get slots i ≡ Some (Vacant next)) same found)
            | inr later ↦ vacant iy later
          ]) in
          absurd (omega (arith, longer))

  -- a chain with as many links as slots are vacant has each
  pub IsSound-from_chain :
      (slots : List (ItemSlot T)) (head len : ℕ)
      → len ≡ count_by is_some (map item_of slots)
      → (vacant : ℕ)
      → len + vacant ≡ length slots
      → HasChain slots head vacant
      → IsSound slots head len
  IsSound-from_chain slots head len counted vacant as_many chain =
      let apart = IsChain-distinct slots head chain.0 chain.1 in
      record {
        counted = counted;
        chain = chain.0;
        distinct = apart;
        chained = chain.1;
        complete = each_vacant slots chain.0 apart (λ ix listed. IsChain-vacant slots head chain.0 ix chain.1 listed) (omega (arith, chain.2));
      }

  -- So many steps from head along the chain lead to this index: each chain goes on by one of the other.
  pub record Leads (slots : List (ItemSlot T)) (head steps at : ℕ) : Type 0 where
    pub whole : (rest : List ℕ) → IsChain slots at rest → HasChain slots head (steps + length rest)
    pub part :
        (list : List ℕ)
        → IsChain slots head list
        → (rest : List ℕ) × IsChain slots at rest × (length list ≡ steps + length rest)

  pub Leads-start : (slots : List (ItemSlot T)) (head : ℕ) → Leads slots head 0 head
  Leads-start slots head = record {
    whole = λ rest chain. (rest, chain, omega arith);
    part = λ list chain. (list, chain, omega arith);
  }

  module _ {slots : List (ItemSlot T)} {head steps at : ℕ} (walk : Leads slots head steps at) where
    -- one step more, from a vacant slot to its link
    pub Leads-step :
        (next : ℕ)
        → at ≢ sentinel
        → slice_get slots at ≡ Some (Vacant next)
        → Leads slots head (steps + 1) next
    Leads-step next before found = record {
      whole = λ rest chain.
          let longer = walk.whole (at ∷ rest) (next, refl, before, found, chain) in
          (longer.0, longer.1, omega (arith, longer.2));
      part = λ list chain. let shorter = walk.part list chain in beyond shorter.0 shorter.1 list shorter.2;
    }
      where
        beyond :
            (rest : List ℕ)
            → IsChain slots at rest
            → (list : List ℕ)
            → length list ≡ steps + length rest
            → (more : List ℕ) × IsChain slots next more × (length list ≡ steps + 1 + length more)
        beyond [] ends list size = absurd (before ends)
        beyond (ix ∷ more) goes_on list size =
            let there = goes_on.3 in
            let same : goes_on.0 ≡ next = cc in
            (more, subst (λ n. IsChain slots n more) same goes_on.4, omega (arith, size))

    -- at the end the chain has as many as were walked, and no other number
    pub walked_at_end : at ≡ sentinel → HasChain slots head steps
    walked_at_end ends = let whole = walk.whole [] ends in (whole.0, whole.1, omega (arith, whole.2))

    pub as_many_at_end : at ≡ sentinel → (count : ℕ) → HasChain slots head count → steps ≡ count
    as_many_at_end ends count chain =
        let rest = walk.part chain.0 chain.1 in
        let none = IsChain-unique slots at rest.0 [] rest.1 ends in
        omega (arith, chain.2, rest.2, none)

    -- before the end the chain goes on from a vacant slot, so it has more
    pub more_before_end :
        at ≢ sentinel
        → (count : ℕ)
        → HasChain slots head count
        → (steps < count) × (next : ℕ) × (slice_get slots at ≡ Some (Vacant next))
    more_before_end before count chain = let rest = walk.part chain.0 chain.1 in by_rest rest.0 rest.1 rest.2
      where
        by_rest :
            (rest : List ℕ)
            → IsChain slots at rest
            → length chain.0 ≡ steps + length rest
            → (steps < count) × (next : ℕ) × (slice_get slots at ≡ Some (Vacant next))
        by_rest [] ends size = absurd (before ends)
        by_rest (ix ∷ more) goes_on size = (omega (arith, chain.2, size), goes_on.0, goes_on.3)
