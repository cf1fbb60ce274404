-- The lists of indexes that come behind one in an order, and what a step along that order leaves of them.
use Rattle.std.proofs.Common.{◌≡◌, ◌≢◌, ◌∙◌, ◌+◌, ◌<◌, ◌≤◌, ◌&&◌, ◌⊎◌, ◌↔◌, inl, inr, ℕ, Bool, true, false, cond, nat_eq, List, [], ◌∷◌, filter, map, Option, Some, None, refl, sym, ap, subst, Ordering, arith}
use Rattle.std.specs.Cmp.{IsTotalOrder}
use Rattle.std.specs.List.{Contains}
use Rattle.std.specs.List.Sorted.{IsStrictlySortedBy}
use Rattle.std.proofs.lemmas.Bool.{cases_lt}
use Rattle.std.proofs.lemmas.Cmp.{ranked}
use Rattle.std.specs.Cmp.{nat_cmp_is}
use Rattle.std.specs.Ordering.{is_eq, is_lt, nat_cmp, ordering_reverse, ordering_then}
use Rattle.std.specs.Range.Bound.{bound_map}
use Rattle.std.specs.declared.cmp.Ordering.TheVariants.{Less, Equal, Greater}
use Rattle.std.specs.declared.ops.Bound.TheVariants.{Included}
use Rattle.iddqd.specs.LiveItems.{live_pairs, pairs_from}
use Rattle.iddqd.specs.Reads.{IsNextLive}
use Rattle.iddqd.specs.Store.{Store, get, removed}
use Rattle.iddqd.proofs.LiveItemLemmas.{IsWalkOf-live_pairs}
use Rattle.iddqd.proofs.LiveLemmas.{item_at, live_at, none_not_live}
use Rattle.iddqd.proofs.StoreLemmas.{contains_head, contains_tail, contains_cases, contains_none}
use Rattle.iddqd_hash.proofs.FiledLemmas.{same_index}
use Rattle.iddqd_keys.specs.Bounds.{is_in_bounds}
use Rattle.iddqd_keys.specs.OrderedQuery.{FitsOrder, is_between, is_equal, is_up_to}
use Rattle.iddqd_keys.specs.KeyWalk.{by_key_then_index, ComesBefore, IsFirstHit, IsInPlace, IsNextHit, SortsWithin}
use Rattle.iddqd_keys.specs.Scan.{IsHit, itself}
use Rattle.iddqd_keys.proofs.KeyWalkLemmas.{between_equal, in_front, none_placed, put_in_front, totals}
use Rattle.iddqd_keys.proofs.NextLemmas.{IsFrom, IsNextHit-between, SortsFrom, SortsFrom-none, SortsFrom-removed, SortsWithin-from, both, compares_live, from_behind, from_later, next_hits, next_still, not_before_itself}
use Rattle.iddqd_keys.proofs.SortedLemmas.{sorted_once}
use Rattle.iddqd_map.specs.Groups.{AreHits, listed_from}
use Rattle.iddqd_map.specs.Selection.{hits_behind, live_behind, live_indexes, put_in, sorted_by}
use Rattle.iddqd_map.specs.SelectionLaws.{SortsWithin-live, first_of, lesser_first, tied_total}
use Rattle.iddqd_map.proofs.GroupRetainLemmas.{Contains-passing}

-- the members of a list that was sorted are those that it had
module _ (compare : ℕ → ℕ → Ordering) (same : (i j : ℕ) → compare i j ≡ Equal → i ≡ j) where
  put_head : (ix : ℕ) (rest : List ℕ) → Contains (put_in compare ix rest) ix
  put_head ix [] = contains_head ix []
  put_head ix (k ∷ rest) =
      elim (compare ix k) as (λ r. compare ix k ≡ r → Contains (cond (is_lt r) (ix ∷ k ∷ rest) (cond (is_eq r) (k ∷ rest) (k ∷ put_in compare ix rest))) ix) [
        | Less ↦ λ _. contains_head ix (k ∷ rest)
        | Equal ↦ λ equal. subst (Contains (k ∷ rest)) (sym (same ix k equal)) (contains_head k rest)
        | Greater ↦ λ _. contains_tail k ix (put_in compare ix rest) (put_head ix rest)
      ] refl

  put_tail : (ix : ℕ) (rest : List ℕ) (j : ℕ) → Contains rest j → Contains (put_in compare ix rest) j
  put_tail ix [] j here = absurd (contains_none j here)
  put_tail ix (k ∷ rest) j here =
      elim (compare ix k) as (λ r. Contains (cond (is_lt r) (ix ∷ k ∷ rest) (cond (is_eq r) (k ∷ rest) (k ∷ put_in compare ix rest))) j) [
        | Less ↦ contains_tail ix j (k ∷ rest) here
        | Equal ↦ here
        | Greater ↦ elim (contains_cases k j rest here) [
          | inl is ↦ subst (Contains (k ∷ put_in compare ix rest)) is (contains_head k (put_in compare ix rest))
          | inr there ↦ contains_tail k j (put_in compare ix rest) (put_tail ix rest j there)
        ]
      ]

  put_cases : (ix : ℕ) (rest : List ℕ) (j : ℕ) → Contains (put_in compare ix rest) j → (ix ≡ j) ⊎ Contains rest j
  put_cases ix [] j here = contains_cases ix j [] here
  put_cases ix (k ∷ rest) j here =
      (elim (compare ix k) as (λ r. Contains (cond (is_lt r) (ix ∷ k ∷ rest) (cond (is_eq r) (k ∷ rest) (k ∷ put_in compare ix rest))) j → (ix ≡ j) ⊎ Contains (k ∷ rest) j) [
        | Less ↦ λ there. contains_cases ix j (k ∷ rest) there
        | Equal ↦ λ there. inr there
        | Greater ↦ λ listed. elim (contains_cases k j (put_in compare ix rest) listed) [
          | inl is ↦ inr (subst (Contains (k ∷ rest)) is (contains_head k rest))
          | inr there ↦ elim (put_cases ix rest j there) [
            | inl is ↦ inl is
            | inr later ↦ inr (contains_tail k j rest later)
          ]
        ]
      ]) here

  sorted_there : (xs : List ℕ) (j : ℕ) → Contains xs j → Contains (sorted_by compare xs) j
  sorted_there [] j here = here
  sorted_there (x ∷ xs) j here = elim (contains_cases x j xs here) [
    | inl is ↦ subst (Contains (put_in compare x (sorted_by compare xs))) is (put_head x (sorted_by compare xs))
    | inr there ↦ put_tail x (sorted_by compare xs) j (sorted_there xs j there)
  ]

  sorted_from : (xs : List ℕ) (j : ℕ) → Contains (sorted_by compare xs) j → Contains xs j
  sorted_from [] j here = here
  sorted_from (x ∷ xs) j here = elim (put_cases x (sorted_by compare xs) j here) [
    | inl is ↦ subst (Contains (x ∷ xs)) is (contains_head x xs)
    | inr there ↦ contains_tail x j xs (sorted_from xs j there)
  ]

-- the indexes of those pairs that pass
module _ {T : Type 0} (test : ℕ × T → Bool) where
  passing_from :
      (pairs : List (ℕ × T)) (j : ℕ)
      → Contains (map (λ q. q.0) (filter test pairs)) j
      → (x : T) × Contains pairs (j, x) × (test (j, x) ≡ true)
  passing_from [] j here = absurd (contains_none j here)
  passing_from (q ∷ pairs) j here =
      let more : Contains (map (λ r. r.0) (filter test pairs)) j → (x : T) × Contains (q ∷ pairs) (j, x) × (test (j, x) ≡ true) =
      λ there. let (x, listed, passes) = passing_from pairs j there in (x, contains_tail q (j, x) pairs listed, passes) in
      (elim (test q) as (λ b. test q ≡ b → Contains (map (λ r. r.0) (cond b (q ∷ filter test pairs) (filter test pairs))) j → (x : T) × Contains (q ∷ pairs) (j, x) × (test (j, x) ≡ true)) [
        | true ↦ λ passes listed. elim (contains_cases q.0 j (map (λ r. r.0) (filter test pairs)) listed) [
          | inl is ↦ (q.1, subst (λ k. Contains (q ∷ pairs) (k, q.1)) is (contains_head q pairs), subst (λ k. test (k, q.1) ≡ true) is passes)
          | inr there ↦ more there
        ]
        | false ↦ λ _ there. more there
      ]) refl here

less_is : (r : Ordering) → is_lt r ≡ true → r ≡ Less
less_is Less is = refl
less_is Equal is = cc
less_is Greater is = cc

then_equal : (r s : Ordering) → ordering_then r s ≡ Equal → s ≡ Equal
then_equal Less s is = cc
then_equal Equal s is = is
then_equal Greater s is = cc

both_true : (a b : Bool) → a ≡ true → b ≡ true → (a && b) ≡ true
both_true a b one other = rw (one, other) refl

module _ {T : Type 0} (compare : T → T → Ordering) (total : IsTotalOrder compare) (s : Store T) where
  abbrev order : ℕ → ℕ → Ordering
  order = by_key_then_index itself compare s

  same_place : (i j : ℕ) → order i j ≡ Equal → i ≡ j
  same_place i j equal = same_index i j (ap is_eq (then_equal _ (nat_cmp i j) equal))

  before_both :
      (i j k : ℕ)
      → ComesBefore itself compare s i j
      → ComesBefore itself compare s j k
      → ComesBefore itself compare s i k
  before_both i j k one other = (totals itself compare total s).trans i j k one other

  put_placed :
      (ix : ℕ) (rest : List ℕ)
      → IsInPlace itself compare s rest
      → IsInPlace itself compare s (put_in order ix rest)
  unfolding IsStrictlySortedBy
  put_placed ix [] placed = put_in_front itself compare s ix [] (λ j there. absurd (contains_none j there)) (none_placed itself compare s)
  put_placed ix (k ∷ rest) placed =
      elim (order ix k) as (λ r. order ix k ≡ r → IsInPlace itself compare s (cond (is_lt r) (ix ∷ k ∷ rest) (cond (is_eq r) (k ∷ rest) (k ∷ put_in order ix rest)))) [
        | Less ↦ λ before. put_in_front itself compare s ix (k ∷ rest) (λ j there. elim (contains_cases k j rest there) [
          | inl is ↦ subst (ComesBefore itself compare s ix) is before
          | inr later ↦ before_both ix k j before (in_front itself compare s k rest placed j later)
        ]) placed
        | Equal ↦ λ _. placed
        | Greater ↦ λ after.
            let back : ComesBefore itself compare s k ix = (totals itself compare total s).antisymm k ix ∙ ap ordering_reverse after in
            put_in_front itself compare s k (put_in order ix rest) (λ j there. elim (put_cases order same_place ix rest j there) [
              | inl is ↦ subst (ComesBefore itself compare s k) is back
              | inr later ↦ in_front itself compare s k rest placed j later
            ]) (put_placed ix rest placed.1)
      ] refl

  sorted_placed : (xs : List ℕ) → IsInPlace itself compare s (sorted_by order xs)
  sorted_placed [] = none_placed itself compare s
  sorted_placed (x ∷ xs) = put_placed x (sorted_by order xs) (sorted_placed xs)

  -- there is one list of these indexes in this order
  placed_unique :
      (xs ys : List ℕ)
      → IsInPlace itself compare s xs
      → IsInPlace itself compare s ys
      → ((j : ℕ) → Contains xs j ↔ Contains ys j)
      → xs ≡ ys
  unfolding IsStrictlySortedBy
  placed_unique [] [] placed_x placed_y alike = refl
  placed_unique [] (y ∷ ys) placed_x placed_y alike = absurd (contains_none y ((alike y).1 (contains_head y ys)))
  placed_unique (x ∷ xs) [] placed_x placed_y alike = absurd (contains_none x ((alike x).0 (contains_head x xs)))
  placed_unique (x ∷ xs) (y ∷ ys) placed_x placed_y alike =
      let first : x ≡ y = elim (contains_cases y x ys ((alike x).0 (contains_head x xs))) [
        | inl is ↦ sym is
        | inr later ↦ elim (contains_cases x y xs ((alike y).1 (contains_head y ys))) [
          | inl is ↦ is
          | inr other ↦ absurd (not_before_itself itself compare total s x (before_both x y x (in_front itself compare s x xs placed_x y other) (in_front itself compare s y ys placed_y x later)))
        ]
      ] in
      let rest : (j : ℕ) → Contains xs j ↔ Contains ys j = λ j. (
        λ here. elim (contains_cases y j ys ((alike j).0 (contains_tail x j xs here))) [
          | inl is ↦ absurd (not_before_itself itself compare total s x (subst (ComesBefore itself compare s x) (sym is ∙ sym first) (in_front itself compare s x xs placed_x j here)))
          | inr there ↦ there
        ],
        λ here. elim (contains_cases x j xs ((alike j).1 (contains_tail y j ys here))) [
          | inl is ↦ absurd (not_before_itself itself compare total s y (subst (ComesBefore itself compare s y) (sym is ∙ first) (in_front itself compare s y ys placed_y j here)))
          | inr there ↦ there
        ],
      ) in
      ap (λ z. z ∷ xs) first ∙ ap (λ l. y ∷ l) (placed_unique xs ys placed_x.1 placed_y.1 rest)

  module _ (within : T → Bool) where
    -- the hits behind an index, by rising index
    abbrev unsorted : ℕ → List ℕ
    unsorted ix = map (λ p. p.0) (filter (λ p. within p.1 && is_lt (order ix p.0)) (live_pairs s))

    behind_each :
        (ix j : ℕ) → Contains (hits_behind compare within s ix) j ↔ (IsHit s within j × ComesBefore itself compare s ix j)
    behind_each ix j =
        let test : ℕ × T → Bool = λ p. within p.1 && is_lt (order ix p.0) in (
          λ here.
              let (x, listed, passes) = passing_from test (live_pairs s) j (sorted_from order same_place _ j here) in
              let (inside, later) = both (within x) (is_lt (order ix j)) passes in
              ((x, ((IsWalkOf-live_pairs s).live j x).0 listed, inside), less_is (order ix j) later),
          λ ((x, live, inside), later).
              sorted_there order same_place _ j
              (first_of (filter test (live_pairs s)) (j, x)
              (Contains-passing test (live_pairs s) (j, x) (((IsWalkOf-live_pairs s).live j x).1 live)
              (both_true (within x) (is_lt (order ix j)) inside (ap is_lt later)))),
        )

    -- an index and those behind it are all from it on
    pub SortsFrom-listed :
        (next : Option ℕ)
        → ((n : ℕ) → next ≡ Some n → IsHit s within n)
        → SortsFrom itself compare within s next (listed_from (hits_behind compare within s) next)
    SortsFrom-listed None hit = SortsFrom-none itself compare total s within
    SortsFrom-listed (Some n) hit = record {
      each = λ j. (
        λ here. elim (contains_cases n j (hits_behind compare within s n) here) [
          | inl is ↦ (subst (IsHit s within) is (hit n refl), inl (sym is))
          | inr later ↦ let (one, behind) = (behind_each n j).0 later in (one, inr behind)
        ],
        λ (one, from). elim from [
          | inl is ↦ subst (Contains (n ∷ hits_behind compare within s n)) (sym is) (contains_head n (hits_behind compare within s n))
          | inr behind ↦ contains_tail n j (hits_behind compare within s n) ((behind_each n j).1 (one, behind))
        ],
      );
      placed = put_in_front itself compare s n (hits_behind compare within s n) (λ j there. ((behind_each n j).0 there).1) (sorted_placed (unsorted n));
    }

    from_unique :
        (ix : ℕ) (next : Option ℕ) (rest : List ℕ)
        → IsNextHit itself compare s within ix next
        → SortsFrom itself compare within s next rest
        → hits_behind compare within s ix ≡ rest
    from_unique ix next rest is sorts =
        placed_unique (hits_behind compare within s ix) rest (sorted_placed (unsorted ix)) sorts.placed (λ j. (
          λ here. let (hit, behind) = (behind_each ix j).0 here in (sorts.each j).1 (hit, from_behind itself compare total s within ix next j is hit behind),
          λ here. let (hit, from) = (sorts.each j).0 here in (behind_each ix j).1 (hit, from_later itself compare total s within ix next j is from),
        ))

    -- the first of all, and what comes behind it
    pub first-listed :
        (first : Option ℕ)
        → IsFirstHit itself compare s within first
        → SortsWithin itself compare within s (listed_from (hits_behind compare within s) first)
    first-listed first is =
        SortsWithin-from itself compare total s within first _ is (SortsFrom-listed first (first_hit first is))
      where
        first_hit : (o : Option ℕ) → IsFirstHit itself compare s within o → (n : ℕ) → o ≡ Some n → IsHit s within n
        first_hit None is n never = cc
        first_hit (Some m) is n same = let one : m ≡ n = cc in subst (IsHit s within) one is.0

    -- the next, and what comes behind it
    pub next-listed :
        (ix : ℕ) (next : Option ℕ)
        → IsNextHit itself compare s within ix next
        → hits_behind compare within s ix ≡ listed_from (hits_behind compare within s) next
    next-listed ix next is = from_unique ix next _ is (SortsFrom-listed next (next_hits itself compare s within ix next is))

-- the same where the index is removed
module _
    {T : Type 0} (compare : T → T → Ordering) (total : IsTotalOrder compare) (s : Store T) (within : T → Bool)
  where
    pub taken-listed :
        (ix : ℕ) (item : T) (next : Option ℕ)
        → get s ix ≡ Some item
        → IsNextHit itself compare s within ix next
        → hits_behind compare within s ix ≡ listed_from (hits_behind compare within (removed s ix)) next
    taken-listed ix item next live is =
        from_unique compare total s within ix next (listed_from (hits_behind compare within (removed s ix)) next) is
        (SortsFrom-removed itself compare total s within ix next is (listed_from (hits_behind compare within (removed s ix)) next) item live
        (SortsFrom-listed compare total (removed s ix) within next
        (next_still itself compare total s within ix next is (listed_from (hits_behind compare within (removed s ix)) next) item live)))

-- the steps between a query and itself are those over what compares Equal with it
module _
    {Q T : Type 0} (order : T → T → Ordering) (compare : Q → T → Ordering) (fits : (q : Q) → FitsOrder order (compare q))
    (s : Store T) (q : Q)
  where
    pub first-equal :
        (first : Option ℕ)
        → IsFirstHit itself order s (is_in_bounds compare (record { lower = Included q; upper = Included q })) first
        → IsFirstHit itself order s (is_equal (compare q)) first
    first-equal first is = subst (λ test. IsFirstHit itself order s test first) (between_equal (compare q)) is

    pub next-equal :
        (ix : ℕ) (next : Option ℕ)
        → IsHit s (is_equal (compare q)) ix
        → IsNextHit itself order s (is_up_to (bound_map compare (Included q))) ix next
        → IsNextHit itself order s (is_equal (compare q)) ix next
    next-equal ix next hit is =
        let between : IsHit s (is_between (Included (compare q)) (Included (compare q))) ix =
        subst (λ test. IsHit s test ix) (sym (between_equal (compare q))) hit in
        subst (λ test. IsNextHit itself order s test ix next) (between_equal (compare q))
        (IsNextHit-between itself order compare fits s ix (Included q) (Included q) next between is)

-- the steps over all items, by index alone
module _ {T : Type 0} (s : Store T) where
  first_lesser :
      (i j : ℕ) (x y : T)
      → get s i ≡ Some x
      → get s j ≡ Some y
      → ComesBefore itself (λ _ _. Equal) s i j
      → i < j
  first_lesser i j x y one other before =
      ranked i j Less (sym before ∙ compares_live itself (λ _ _. Equal) s i j x y one other)

  first_hit : (first : Option ℕ) → IsNextLive s 0 first → IsFirstHit itself (λ _ _. Equal) s (λ _. true) first
  first_hit None none = λ j (x, live, passes). (let vacant = none j (omega arith) in cc)
  first_hit (Some ix) (_, live, none) =
      let (item, is) = item_at s ix live in (
        (item, is, refl),
        λ j (x, there, passes) apart. (
            let order : ix < j = elim (cases_lt j ix) [
              | inl before ↦ let vacant = none j (omega arith) before in absurd (cc)
              | inr past ↦ omega (arith, past, apart)
            ] in
            lesser_first s ix j item x is there order),
      )

  next_hit :
      (ix : ℕ) (item : T) (next : Option ℕ)
      → get s ix ≡ Some item
      → IsNextLive s (ix + 1) next
      → IsNextHit itself (λ _ _. Equal) s (λ _. true) ix next
  next_hit ix item None live none = λ j (x, there, passes) behind.
      let order = first_lesser ix j item x live there behind in
      let vacant = none j (omega (arith, order)) in
      cc
  next_hit ix item (Some n) live (from, is_live, none) =
      let (y, is) = item_at s n is_live in (
        (y, is, refl),
        lesser_first s ix n item y live is (omega (arith, from)),
        λ j (x, there, passes) behind apart. (
            let order = first_lesser ix j item x live there behind in
            let later : n < j = elim (cases_lt j n) [
              | inl before ↦ let vacant = none j (omega (arith, order)) before in absurd (cc)
              | inr past ↦ omega (arith, past, apart)
            ] in
            lesser_first s n j y x is there later),
      )

  -- the steps over all items
  pub live-first : (first : Option ℕ) → IsNextLive s 0 first → listed_from (live_behind s) first ≡ live_indexes s
  live-first first is =
      let sorts = first-listed (λ _ _. Equal) tied_total s (λ _. true) first (first_hit first is) in
      placed_unique (λ _ _. Equal) tied_total s _ _ sorts.placed (SortsWithin-live s).placed
      (λ j. (λ here. ((SortsWithin-live s).each j).1 ((sorts.each j).0 here), λ here. (sorts.each j).1 (((SortsWithin-live s).each j).0 here)))

  pub live-next :
      (ix : ℕ) (next : Option ℕ)
      → IsHit s (λ _. true) ix
      → IsNextLive s (ix + 1) next
      → live_behind s ix ≡ listed_from (live_behind s) next
  live-next ix next (item, live, passes) is =
      next-listed (λ _ _. Equal) tied_total s (λ _. true) ix next (next_hit ix item next live is)

  pub live-taken :
      (ix : ℕ) (next : Option ℕ)
      → IsHit s (λ _. true) ix
      → IsNextLive s (ix + 1) next
      → live_behind s ix ≡ listed_from (live_behind (removed s ix)) next
  live-taken ix next (item, live, passes) is =
      taken-listed (λ _ _. Equal) tied_total s (λ _. true) ix item next live (next_hit ix item next live is)
