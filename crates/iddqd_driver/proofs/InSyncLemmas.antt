-- What a check by keys finds: that first keys are filed alone under their hashes, and that second keys rise.
use Rattle.std.proofs.Common.{◌≡◌, ◌∙◌, ◌+◌, ◌<◌, ◌⊎◌, inl, inr, ℕ, Bool, true, List, [], ◌∷◌, length, get_or, Some, IsSome, Result, Ok, Err, IsOk, IfErr, refl, sym, ap, subst, Ordering, arith}
use Rattle.std.specs.Cmp.{IsTotalOrder, Equal-is, nat_cmp_total, eq_by_cmp_equiv}
use Rattle.std.specs.Cmp.Lexicographic.{options_total}
use Rattle.std.specs.List.{Contains}
use Rattle.std.specs.List.Sorted.{IsPermutation, IsStrictlySortedBy}
use Rattle.std.specs.Ordering.{nat_cmp, ordering_then, eq_by_cmp}
use Rattle.std.specs.declared.cmp.Ordering.TheVariants.{Less, Equal, Greater}
use Rattle.std.specs.FinMap as finite
use Rattle.std.specs.FinMap.{FinMap}
use Rattle.std.proofs.lemmas.Bool.{cases_eq, cases_lt}
use Rattle.std.proofs.lemmas.Cmp.{on_total, tied_itself}
use Rattle.std.proofs.lemmas.List.{get_or_default}
use Rattle.std.proofs.lemmas.List.Elements.{All-from_recursion, recursion_from_All, Contains-get_or}
use Rattle.std.proofs.lemmas.List.Sorted.{IsPermutation-sym, Contains-permutation}
use Rattle.std.proofs.lemmas.Map.Keys.{Less-from_sorted, sorted_from_all_adjacent}
use Rattle.iddqd.specs.Store.{Store, get}
use Rattle.iddqd.specs.Validation.{IsMemory, Validates}
use Rattle.iddqd.specs.declared.internal.ValidateRefusal.{ValidateRefusal}
use Rattle.iddqd.specs.declared.internal.ValidateRefusal.TheVariants.{Invalid, Memory}
use Rattle.iddqd.proofs.LiveLemmas.{item_at, live_at}
use Rattle.iddqd.proofs.StoreLemmas.{contains_cases, contains_head, contains_none, contains_tail}
use Rattle.iddqd_hash.specs.MapHashTable.{indexes_under}
use Rattle.iddqd_hash.proofs.FiledLemmas.{filed_from_under, under_from_filed}
use Rattle.iddqd_hash.proofs.MemberLemmas.{filed_at}
use Rattle.iddqd_keys.specs.KeyWalk.{key_at, IsInPlace}
use Rattle.iddqd_keys.specs.AnyTable.{HasDistinctKeys}
use Rattle.iddqd_keys.specs.Scan.{IsHit}
use Rattle.iddqd_keys.proofs.KeyWalkLemmas.{totals}
use Rattle.iddqd_by_order.specs.Ordered as ordered
use Rattle.iddqd_driver.specs.Keys.{Keys}
use Rattle.iddqd_driver.specs.KeyIndexes.{FirstKeysInSync, SecondKeysInSync}
use Rattle.iddqd_driver.specs.State.{State, IsPaired}
use Rattle.iddqd_driver.specs.Validation.{HasLesserHit, IsFoundAlone, KeysRise, by_key}
use Rattle.iddqd_driver.proofs.KeyLemmas.{AreLawful}
use Rattle.iddqd_driver.proofs.KeepsLemmas.{Holds-order}

-- ---- first keys

-- The indexes under a hash are searched for a lesser hit: those that are left are under the hash, and no other is a
-- lesser hit.
module _ {T : Type 0} (s : Store T) (hashes : FinMap nat_cmp ℕ) (hash : ℕ) (test : T → Bool) (ix : ℕ) where
  abbrev IsLesserHit : ℕ → Type 0
  IsLesserHit j = (j < ix) × IsHit s test j

  pub record Searched (left : List ℕ) : Type 0 where
    pub under : (j : ℕ) → Contains left j → finite.get hashes j ≡ Some hash
    pub passed : (j : ℕ) → finite.get hashes j ≡ Some hash → IsLesserHit j → Contains left j

  pub Searched-none : (left : List ℕ) → IsPermutation (indexes_under hash hashes) left → Searched left
  Searched-none left moved = record {
    under = λ j here. filed_from_under hashes hash j (Contains-permutation _ _ j (IsPermutation-sym _ _ moved) here);
    passed = λ j filed _. Contains-permutation _ _ j moved (under_from_filed hashes hash j filed);
  }

  pub Searched-next : (at : ℕ) (rest : List ℕ) → Searched (at ∷ rest) → (IsLesserHit at → ⊥) → Searched rest
  Searched-next at rest before misses = record {
    under = λ j here. before.under j (contains_tail at j rest here);
    passed = λ j filed hit. elim (contains_cases at j rest (before.passed j filed hit)) [
      | inl same ↦ absurd (misses (subst IsLesserHit (sym same) hit))
      | inr there ↦ there
    ];
  }

  pub Searched-head : (at : ℕ) (rest : List ℕ) → Searched (at ∷ rest) → finite.get hashes at ≡ Some hash
  Searched-head at rest before = before.under at (contains_head at rest)

  -- the index that is next is filed
  pub next_is_filed : (at : ℕ) (all rest : List ℕ) → all ≡ at ∷ rest → Searched all → IsSome (finite.get hashes at)
  next_is_filed at all rest is left = filed_at _ hash (Searched-head at rest (rw is at left))

  pub HasLesserHit-found :
      (at : ℕ)
      → finite.get hashes at ≡ Some hash
      → IsLesserHit at
      → HasLesserHit s hashes hash test ix
  HasLesserHit-found at filed hit = (at, hit.0, record { hit = hit.1; filed = filed })

  pub Searched-all : Searched [] → HasLesserHit s hashes hash test ix → ⊥
  Searched-all done (j, less, found) = contains_none j (done.passed j found.filed (less, found.hit))

module _ {T K1 K2 S : Type 0} (keys : Keys T K1 K2 S) (s : State T S) (lawful : AreLawful keys) where
  -- each live index is found alone, so first keys are in sync
  pub FirstKeysInSync-found :
      ((ix : ℕ) (item : T) → get s.store ix ≡ Some item → IsFoundAlone keys s ix (keys.first item))
      → FirstKeysInSync keys s
  FirstKeysInSync-found found = record {
    placed = λ ix item live. (found ix item live).filed;
    apart = λ i j x y at_i at_j same. elim (cases_eq i j) [
      | inl one ↦ one
      | inr other ↦
          let symm = (lawful.first s.hasher).equivalence.symm (keys.first x) (keys.first y) in
          let hashes = (lawful.first s.hasher).equal_hash (keys.first x) (keys.first y) same in
          elim (cases_lt i j) [
            | inl less ↦
                let filed = (found i x at_i).filed ∙ ap Some hashes in
                absurd ((found j y at_j).alone (i, less, record { hit = (x, at_i, sym symm ∙ same); filed = filed }))
            | inr more ↦
                let filed = (found j y at_j).filed ∙ ap Some (sym hashes) in
                absurd ((found i x at_i).alone (j, omega (arith, more, other), record { hit = (y, at_j, same); filed = filed }))
          ]
    ];
  }

-- ---- second keys

-- A walk along a list, by an order of its indexes: the list is sorted if and only if what is left of it is, with the
-- index before.
module _ (c : ℕ → ℕ → Ordering) where
  rises-front :
      IsTotalOrder c
      → (x y : ℕ) (rest : List ℕ)
      → c x y ≡ Less
      → IsStrictlySortedBy c (y ∷ rest)
      → IsStrictlySortedBy c (x ∷ y ∷ rest)
  unfolding IsStrictlySortedBy
  rises-front total x y rest less rises =
      let beyond = All-from_recursion (λ z. c y z ≡ Less) rest rises.0 in
      ((less, recursion_from_All (λ z. c x z ≡ Less) rest (λ k d within. total.trans x y _ less (beyond k d within))), rises)

  rises-head : (x y : ℕ) (rest : List ℕ) → IsStrictlySortedBy c (x ∷ y ∷ rest) → c x y ≡ Less
  unfolding IsStrictlySortedBy
  rises-head x y rest rises = rises.0.0

  rises-tail : (x : ℕ) (rest : List ℕ) → IsStrictlySortedBy c (x ∷ rest) → IsStrictlySortedBy c rest
  unfolding IsStrictlySortedBy
  rises-tail x rest rises = rises.1

  rises-one : (x : ℕ) → IsStrictlySortedBy c (x ∷ [])
  unfolding IsStrictlySortedBy
  rises-one x = (tt, tt)

  rises-nil : IsStrictlySortedBy c []
  unfolding IsStrictlySortedBy
  rises-nil = tt

  pub rises-none : (order : List ℕ) → order ≡ [] → IsStrictlySortedBy c order
  rises-none order none = subst (IsStrictlySortedBy c) (sym none) rises-nil

  pub record SortedAs (order : List ℕ) (before : ℕ) (left : List ℕ) : Type 0 where
    pub forth : IsStrictlySortedBy c order → IsStrictlySortedBy c (before ∷ left)
    pub back : IsStrictlySortedBy c (before ∷ left) → IsStrictlySortedBy c order

  pub SortedAs-next :
      IsTotalOrder c
      → (order : List ℕ) (before ix : ℕ) (left : List ℕ)
      → SortedAs order before (ix ∷ left)
      → c before ix ≡ Less
      → SortedAs order ix left
  SortedAs-next total order before ix left walk less = record {
    forth = λ sorted. rises-tail before (ix ∷ left) (walk.forth sorted);
    back = λ rises. walk.back (rises-front total before ix left less rises);
  }

  pub SortedAs-falls :
      (order : List ℕ) (before ix : ℕ) (left : List ℕ)
      → SortedAs order before (ix ∷ left)
      → (c before ix ≡ Less → ⊥)
      → IsStrictlySortedBy c order
      → ⊥
  SortedAs-falls order before ix left walk not_less sorted = not_less (rises-head before ix left (walk.forth sorted))

  pub SortedAs-all : (order : List ℕ) (before : ℕ) → SortedAs order before [] → IsStrictlySortedBy c order
  SortedAs-all order before walk = walk.back (rises-one before)

module _ {T K : Type 0} (key_of : T → K) (compare : K → K → Ordering) (total : IsTotalOrder compare) (s : Store T) where
  pub by_key-total : IsTotalOrder (by_key key_of compare s)
  by_key-total = on_total (key_at key_of s) (options_total total)

  -- the keys of two live indexes
  pub by_key-live :
      (i j : ℕ) (x y : T)
      → get s i ≡ Some x
      → get s j ≡ Some y
      → by_key key_of compare s i j ≡ compare (key_of x) (key_of y)
  by_key-live i j x y at_i at_j = rw (by_key, key_at, at_i, at_j) refl

  -- keys that rise are in place, and no two are equal
  IsInPlace-rising : (order : List ℕ) → KeysRise key_of compare s order → IsInPlace key_of compare s order
  IsInPlace-rising order rises =
      sorted_from_all_adjacent (totals key_of compare total s) order 0 (λ k within.
      let i = get_or order k 0 in
      let j = get_or order (k + 1) 0 in
      ap (λ r. ordering_then r (nat_cmp i j)) (Less-from_sorted _ order k (k + 1) 0 rises (omega arith) within))

  less-not_equal : (r : Ordering) → r ≡ Less → r ≡ Equal → ⊥
  less-not_equal r less equal = let never : Less ≡ Equal = sym less ∙ equal in absurd (cc)

  abbrev equal : T → T → Bool
  equal x y = eq_by_cmp compare (key_of x) (key_of y)

  distinct_at :
      (order : List ℕ) (p q : ℕ) (x y : T)
      → KeysRise key_of compare s order
      → p < q
      → q < length order
      → get s (get_or order p 0) ≡ Some x
      → get s (get_or order q 0) ≡ Some y
      → equal x y ≡ true
      → ⊥
  distinct_at order p q x y rises less within at_p at_q same =
      let below = Less-from_sorted _ order p q 0 rises less within in
      less-not_equal (compare (key_of x) (key_of y)) (sym (by_key-live _ _ x y at_p at_q) ∙ below) ((Equal-is _).0 same)

  HasDistinctKeys-rising :
      (order : List ℕ)
      → ordered.Holds s order
      → KeysRise key_of compare s order
      → HasDistinctKeys key_of (eq_by_cmp compare) s
  HasDistinctKeys-rising order holds rises i j x y at_i at_j same =
      let (p, p_in, is_i) = (holds.each i).1 (live_at s i x at_i) in
      let (q, q_in, is_j) = (holds.each j).1 (live_at s j y at_j) in
      let i_at : get_or order p 0 ≡ i = get_or_default order p 0 i p_in ∙ is_i in
      let j_at : get_or order q 0 ≡ j = get_or_default order q 0 j q_in ∙ is_j in
      let x_at : get s (get_or order p 0) ≡ Some x = ap (get s) i_at ∙ at_i in
      let y_at : get s (get_or order q 0) ≡ Some y = ap (get s) j_at ∙ at_j in
      elim (cases_eq p q) [
        | inl one ↦ sym i_at ∙ ap (λ k. get_or order k 0) one ∙ j_at
        | inr other ↦ elim (cases_lt p q) [
          | inl less ↦ absurd (distinct_at order p q x y rises less q_in x_at y_at same)
          | inr more ↦
              let turned = (eq_by_cmp_equiv total).symm (key_of y) (key_of x) in
              absurd (distinct_at order q p y x rises (omega (arith, more, other)) p_in y_at x_at (turned ∙ same))
        ]
      ]

  -- and keys in place that are distinct rise
  less_or_tied : (r t : Ordering) → ordering_then r t ≡ Less → (r ≡ Less) ⊎ ((r ≡ Equal) × (t ≡ Less))
  less_or_tied Less t is = inl refl
  less_or_tied Equal t is = inr (refl, is)
  less_or_tied Greater t is = absurd (cc)

  KeysRise-distinct :
      (order : List ℕ)
      → ordered.Holds s order
      → IsInPlace key_of compare s order
      → HasDistinctKeys key_of (eq_by_cmp compare) s
      → KeysRise key_of compare s order
  KeysRise-distinct order holds placed apart =
      sorted_from_all_adjacent by_key-total order 0 (λ k within.
      let i = get_or order k 0 in
      let j = get_or order (k + 1) 0 in
      let (x, at_i) = item_at s i ((holds.each i).0 (Contains-get_or order k 0 (omega arith))) in
      let (y, at_j) = item_at s j ((holds.each j).0 (Contains-get_or order (k + 1) 0 within)) in
      elim (less_or_tied _ _ (Less-from_sorted _ order k (k + 1) 0 placed (omega arith) within)) [
        | inl less ↦ less
        | inr tie ↦
            let one = apart i j x y at_i at_j ((Equal-is _).1 (sym (by_key-live i j x y at_i at_j) ∙ tie.0)) in
            let itself = tied_itself nat_cmp_total i in
            absurd (less-not_equal (nat_cmp i j) tie.1 (subst (λ n. nat_cmp i n ≡ Equal) one itself))
      ])

module _
    {T K1 K2 S : Type 0} (keys : Keys T K1 K2 S) (lawful : AreLawful keys) (s : State T S) (paired : IsPaired s)
  where
    pub SecondKeysInSync-rising : KeysRise keys.second keys.compare_second s.store s.order → SecondKeysInSync keys s
    SecondKeysInSync-rising rises =
        let holds = Holds-order s paired in
        record {
          placed = IsInPlace-rising keys.second keys.compare_second lawful.second s.store s.order rises;
          apart = HasDistinctKeys-rising keys.second keys.compare_second lawful.second s.store s.order holds rises;
        }

    pub KeysRise-in_sync : SecondKeysInSync keys s → KeysRise keys.second keys.compare_second s.store s.order
    KeysRise-in_sync o =
        KeysRise-distinct keys.second keys.compare_second lawful.second s.store s.order (Holds-order s paired) o.placed o.apart

-- ---- what a check answers

pub sound-ok :
    {E : Type 0} (sound : Type 0) (answer : Result (Unit {0}) (ValidateRefusal E))
    → IsOk answer
    → Validates sound answer
    → sound
sound-ok sound (Ok passed) ok validates = validates
sound-ok sound (Err error) ok validates = absurd (cc)

pub IsMemory-sound :
    {E : Type 0} (sound : Type 0) (answer : Result (Unit {0}) (ValidateRefusal E))
    → sound
    → Validates sound answer
    → IfErr answer IsMemory
IsMemory-sound sound (Ok passed) holds validates = tt
IsMemory-sound sound (Err (Invalid error)) holds refuted = absurd (refuted holds)
IsMemory-sound sound (Err (Memory error)) holds validates = tt
