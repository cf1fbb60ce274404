-- The items of a walk in key order are those of the store, put in order.
use Rattle.std.proofs.Common.{◌≡◌, ◌≢◌, ◌∙◌, ◌↔◌, ◌<◌, inl, inr, ℕ, suc, Bool, true, false, cond, ◌&&◌, List, [], ◌∷◌, map, slice_get, Option, Some, None, Bor, MatchOption, refl, sym, ap, subst, Ordering, arith}
use Rattle.std.specs.Prelude.{IfSome}
use Rattle.std.specs.Cmp.Lexicographic.{pointwise}
use Rattle.std.specs.Iterator.{YieldsFirstRef, YieldsThen}
use Rattle.std.specs.List.{AllZip, Contains}
use Rattle.std.specs.Ordering.{is_lt, ordering_reverse}
use Rattle.std.specs.Cmp.{IsTotalOrder}
use Rattle.std.specs.declared.cmp.Ordering.TheVariants.{Less, Equal, Greater}
use Rattle.std.proofs.lemmas.Cmp.{tied_itself}
use Rattle.std.proofs.lemmas.Option.{slice_get-get_or}
use Rattle.iddqd.specs.Store.{Store, get}
use Rattle.iddqd.specs.LiveItems.{live_pairs}
use Rattle.iddqd.proofs.LiveItemLemmas.{IsWalkOf-live_pairs, items_of_pairs}
use Rattle.iddqd.proofs.StoreLemmas.{contains_head, contains_tail, contains_cases, contains_none}
use Rattle.iddqd_ord_map.specs.KeyOrder.{IsKeyWalk, AreInKeyOrder}
use Rattle.iddqd_ord_map.specs.Equality.{put_in_order, sorted, items_in_order}

-- an element stands at some place
place_of : {X : Type 0} (xs : List X) (x : X) → Contains xs x → (k : ℕ) × (slice_get xs k ≡ Some x)
place_of xs x (k, within, at) = (k, slice_get-get_or xs k x within ∙ ap Some at)

-- ---- putting in order

module _ {X : Type 0} (before : X → X → Bool) where
  put_in : (x : X) (ys : List X) (z : X) → Contains (x ∷ ys) z → Contains (put_in_order before x ys) z
  put_in x [] z here = here
  put_in x (y ∷ ys) z here =
      elim (before x y) as (λ b. Contains (cond b (x ∷ y ∷ ys) (y ∷ put_in_order before x ys)) z) [
        | true ↦ here
        | false ↦ elim (contains_cases x z (y ∷ ys) here) [
          | inl same ↦
              contains_tail y z (put_in_order before x ys)
              (put_in x ys z (subst (Contains (x ∷ ys)) same (contains_head x ys)))
          | inr there ↦ elim (contains_cases y z ys there) [
            | inl same ↦
                subst (Contains (y ∷ put_in_order before x ys)) same (contains_head y (put_in_order before x ys))
            | inr behind ↦ contains_tail y z (put_in_order before x ys) (put_in x ys z (contains_tail x z ys behind))
          ]
        ]
      ]

  put_out : (x : X) (ys : List X) (z : X) → Contains (put_in_order before x ys) z → Contains (x ∷ ys) z
  put_out x [] z here = here
  put_out x (y ∷ ys) z here =
      elim (before x y) as (λ b. Contains (cond b (x ∷ y ∷ ys) (y ∷ put_in_order before x ys)) z
      → Contains (x ∷ y ∷ ys) z) [
        | true ↦ λ found. found
        | false ↦ λ found. elim (contains_cases y z (put_in_order before x ys) found) [
          | inl same ↦ contains_tail x z (y ∷ ys) (subst (Contains (y ∷ ys)) same (contains_head y ys))
          | inr there ↦ elim (contains_cases x z ys (put_out x ys z there)) [
            | inl same ↦ subst (Contains (x ∷ y ∷ ys)) same (contains_head x (y ∷ ys))
            | inr behind ↦ contains_tail x z (y ∷ ys) (contains_tail y z ys behind)
          ]
        ]
      ] here

  order_in : (xs : List X) (z : X) → Contains xs z → Contains (sorted before xs) z
  order_in [] z here = here
  order_in (x ∷ xs) z here = put_in x (sorted before xs) z (elim (contains_cases x z xs here) [
    | inl same ↦ subst (Contains (x ∷ sorted before xs)) same (contains_head x (sorted before xs))
    | inr there ↦ contains_tail x z (sorted before xs) (order_in xs z there)
  ])

  order_out : (xs : List X) (z : X) → Contains (sorted before xs) z → Contains xs z
  order_out [] z here = here
  order_out (x ∷ xs) z here = elim (contains_cases x z (sorted before xs) (put_out x (sorted before xs) z here)) [
    | inl same ↦ subst (Contains (x ∷ xs)) same (contains_head x xs)
    | inr there ↦ contains_tail x z xs (order_out xs z there)
  ]

-- parts by which a list goes are put in order with it
module _ {X Y : Type 0} (part : X → Y) (before : Y → Y → Bool) where
  abbrev by_part : X → X → Bool
  by_part x y = before (part x) (part y)

  map-put : (x : X) (ys : List X) → map part (put_in_order by_part x ys) ≡ put_in_order before (part x) (map part ys)
  map-put x [] = refl
  map-put x (y ∷ ys) =
      elim (before (part x) (part y)) as (λ b. map part (cond b (x ∷ y ∷ ys) (y ∷ put_in_order by_part x ys))
      ≡ cond b (part x ∷ part y ∷ map part ys) (part y ∷ put_in_order before (part x) (map part ys))) [
        | true ↦ refl
        | false ↦ ap (λ l. part y ∷ l) (map-put x ys)
      ]

  map-order : (xs : List X) → map part (sorted by_part xs) ≡ sorted before (map part xs)
  map-order [] = refl
  map-order (x ∷ xs) = map-put x (sorted by_part xs) ∙ ap (put_in_order before (part x)) (map-order xs)

-- ---- lists of pairs whose keys rise

module _ {T K : Type 0} (key_of : T → K) (compare : K → K → Ordering) (total : IsTotalOrder compare) where
  abbrev by_key : ℕ × T → ℕ × T → Ordering
  by_key a b = compare (key_of a.1) (key_of b.1)

  abbrev lesser : ℕ × T → ℕ × T → Bool
  lesser a b = is_lt (by_key a b)

  -- each has a lesser key than those behind it
  abbrev Rises : List (ℕ × T) → Type 0
  Rises [] = Unit {0}
  Rises (p ∷ ps) = ((q : ℕ × T) → Contains ps q → by_key p q ≡ Less) × Rises ps

  -- no two have the same key
  abbrev Differ : List (ℕ × T) → Type 0
  Differ [] = Unit {0}
  Differ (p ∷ ps) = ((q : ℕ × T) → Contains ps q → by_key p q ≢ Equal) × Differ ps

  rises_from :
      (ps : List (ℕ × T))
      → ((i j : ℕ) (a b : ℕ × T) → i < j → slice_get ps i ≡ Some a → slice_get ps j ≡ Some b → by_key a b ≡ Less)
      → Rises ps
  rises_from [] rising = tt
  rises_from (p ∷ ps) rising = (
    λ q here. let (k, at) = place_of ps q here in rising 0 (suc k) p q (omega arith) refl at,
    rises_from ps (λ i j a b before at_i at_j. rising (suc i) (suc j) a b (omega arith) at_i at_j),
  )

  not_less_itself : (x : ℕ × T) → by_key x x ≡ Less → ⊥
  not_less_itself x less = let equal = tied_itself total (key_of x.1) in cc

  both_less : (p q : ℕ × T) → by_key p q ≡ Less → by_key q p ≡ Less → ⊥
  both_less p q less turned =
      let greater : by_key p q ≡ Greater = total.antisymm (key_of p.1) (key_of q.1) ∙ ap ordering_reverse turned in cc

  -- what stands behind the first of one list stands behind the same first of another one
  behind_first :
      (p q : ℕ × T) (ps qs : List (ℕ × T))
      → Rises (p ∷ ps)
      → p ≡ q
      → (x : ℕ × T)
      → (Contains (p ∷ ps) x → Contains (q ∷ qs) x)
      → Contains ps x
      → Contains qs x
  behind_first p q ps qs rises first x to here = elim (contains_cases q x qs (to (contains_tail p x ps here))) [
    | inl same ↦ absurd (not_less_itself x (subst (λ z. by_key z x ≡ Less) (first ∙ same) (rises.0 x here)))
    | inr there ↦ there
  ]

  first_of_both :
      (p q : ℕ × T) (ps qs : List (ℕ × T))
      → Rises (p ∷ ps)
      → Rises (q ∷ qs)
      → Contains (q ∷ qs) p
      → Contains (p ∷ ps) q
      → p ≡ q
  first_of_both p q ps qs rp rq p_here q_here = elim (contains_cases q p qs p_here) [
    | inl same ↦ sym same
    | inr p_behind ↦ elim (contains_cases p q ps q_here) [
      | inl same ↦ same
      | inr q_behind ↦ absurd (both_less p q (rp.0 q q_behind) (rq.0 p p_behind))
    ]
  ]

  -- so there is one such list of the same members
  one_list : (ps qs : List (ℕ × T)) → Rises ps → Rises qs → ((x : ℕ × T) → Contains ps x ↔ Contains qs x) → ps ≡ qs
  one_list [] [] rp rq same = refl
  one_list [] (q ∷ qs) rp rq same = absurd (contains_none q ((same q).1 (contains_head q qs)))
  one_list (p ∷ ps) [] rp rq same = absurd (contains_none p ((same p).0 (contains_head p ps)))
  one_list (p ∷ ps) (q ∷ qs) rp rq same =
      let first = first_of_both p q ps qs rp rq ((same p).0 (contains_head p ps)) ((same q).1 (contains_head q qs)) in
      let rest = one_list ps qs rp.1 rq.1 (λ x. (
        behind_first p q ps qs rp first x (same x).0,
        behind_first q p qs ps rq (sym first) x (same x).1,
      )) in
      ap (λ z. z ∷ ps) first ∙ ap (λ l. q ∷ l) rest

  put_rises :
      (x : ℕ × T) (ys : List (ℕ × T))
      → Rises ys
      → ((y : ℕ × T) → Contains ys y → by_key x y ≢ Equal)
      → Rises (put_in_order lesser x ys)
  put_rises x [] rises differs = (λ q here. absurd (contains_none q here), tt)
  put_rises x (y ∷ ys) rises differs =
      elim (by_key x y) as (λ r. by_key x y ≡ r → Rises (cond (is_lt r) (x ∷ y ∷ ys) (y ∷ put_in_order lesser x ys))) [
        | Less ↦ λ is. (
          λ q here. elim (contains_cases y q ys here) [
            | inl same ↦ subst (λ z. by_key x z ≡ Less) same is
            | inr there ↦ total.trans (key_of x.1) (key_of y.1) (key_of q.1) is (rises.0 q there)
          ],
          rises,
        )
        | Equal ↦ λ is. absurd (differs y (contains_head y ys) is)
        | Greater ↦ λ is. (
          λ q here. elim (contains_cases x q ys (put_out lesser x ys q here)) [
            | inl same ↦
                subst (λ z. by_key y z ≡ Less) same
                (total.antisymm (key_of y.1) (key_of x.1) ∙ ap ordering_reverse is)
            | inr there ↦ rises.0 q there
          ],
          put_rises x ys rises.1 (λ z here. differs z (contains_tail y z ys here)),
        )
      ] refl

  order_rises : (xs : List (ℕ × T)) → Differ xs → Rises (sorted lesser xs)
  order_rises [] differ = tt
  order_rises (x ∷ xs) differ =
      put_rises x (sorted lesser xs) (order_rises xs differ.1) (λ y here. differ.0 y (order_out lesser xs y here))

  -- pairs of such a list that have one key are one
  one_pair : (ps : List (ℕ × T)) → Rises ps → (a b : ℕ × T) → Contains ps a → Contains ps b → by_key a b ≡ Equal → a ≡ b
  one_pair [] rises a b a_here b_here equal = absurd (contains_none a a_here)
  one_pair (p ∷ ps) rises a b a_here b_here equal = elim (contains_cases p a ps a_here) [
    | inl first ↦ elim (contains_cases p b ps b_here) [
      | inl other ↦ sym first ∙ other
      | inr behind ↦
          let less : by_key a b ≡ Less = subst (λ z. by_key z b ≡ Less) first (rises.0 b behind) in
          absurd (cc)
    ]
    | inr behind ↦ elim (contains_cases p b ps b_here) [
      | inl first ↦
          let less : by_key b a ≡ Less = subst (λ z. by_key z a ≡ Less) first (rises.0 a behind) in
          let greater : by_key a b ≡ Greater = total.antisymm (key_of a.1) (key_of b.1) ∙ ap ordering_reverse less in
          absurd (cc)
      | inr other ↦ one_pair ps rises.1 a b behind other equal
    ]
  ]

  module _ (s : Store T) where
    -- items at rising indexes have different keys, where there is such a walk
    differ_from :
        (pairs : List (ℕ × T))
        → IsKeyWalk key_of compare s pairs
        → (ps : List (ℕ × T))
        → ((p : ℕ × T) → Contains ps p → get s p.0 ≡ Some p.1)
        → ((i j : ℕ) (a b : ℕ × T) → i < j → slice_get ps i ≡ Some a → slice_get ps j ≡ Some b → a.0 < b.0)
        → Differ ps
    differ_from pairs walk [] live rising = tt
    differ_from pairs walk (p ∷ ps) live rising = (
      λ q here equal.
          let (k, at) = place_of ps q here in
          let less : p.0 < q.0 = rising 0 (suc k) p q (omega arith) refl at in
          let p_there = (walk.live p.0 p.1).1 (live p (contains_head p ps), refl) in
          let q_there = (walk.live q.0 q.1).1 (live q (contains_tail p q ps here), refl) in
          let same = one_pair pairs (rises_from pairs walk.rising) p q p_there q_there equal in
          omega (arith, less, ap (λ (x : ℕ × T). x.0) same),
      differ_from pairs walk ps (λ q here. live q (contains_tail p q ps here))
          (λ i j a b before at_i at_j. rising (suc i) (suc j) a b (omega arith) at_i at_j),
    )

    pairs_in_order : (pairs : List (ℕ × T)) → IsKeyWalk key_of compare s pairs → pairs ≡ sorted lesser (live_pairs s)
    pairs_in_order pairs walk =
        let all = IsWalkOf-live_pairs s in
        let differ = differ_from pairs walk (live_pairs s) (λ p here. (all.live p.0 p.1).0 here) all.rising in
        let order = sorted lesser (live_pairs s) in
        one_list pairs order (rises_from pairs walk.rising) (order_rises (live_pairs s) differ) (λ p. (
          λ here. order_in lesser (live_pairs s) p ((all.live p.0 p.1).1 ((walk.live p.0 p.1).0 here).0),
          λ here. (walk.live p.0 p.1).1 ((all.live p.0 p.1).0 (order_out lesser (live_pairs s) p here), refl),
        ))

    pub items_of_walk :
        (items : List T)
        → AreInKeyOrder key_of compare s items
        → items ≡ items_in_order key_of compare s
    items_of_walk items (pairs, walk, is) =
        is ∙ ap (map (λ (p : ℕ × T). p.1)) (pairs_in_order pairs walk)
        ∙ map-order (λ (p : ℕ × T). p.1) (λ x y. is_lt (compare (key_of x) (key_of y))) (live_pairs s)
        ∙ ap (sorted (λ x y. is_lt (compare (key_of x) (key_of y)))) (items_of_pairs 0 s.items)

-- Two walks are compared by what they give, place by place, until one ends or two items differ. So they are equal if
-- and only if what they have left is.
module _ {A : Type 0} (equal : A → A → Bool) where
  abbrev gives : List A → Option (Bor A) → List A → Type 0
  gives = YieldsFirstRef (λ rest. rest)

  abbrev are_alike : Bor A → Bor A → Bool
  are_alike x y = equal x.now y.now

  -- what an answer says of the next items of both
  abbrev Decides : Bool → Option (Bor A) → Option (Bor A) → Type 0
  Decides r o p = MatchOption o
      (MatchOption p (r ≡ true) (λ _. r ≡ false))
      (λ x. (r ≡ false) × IfSome p (λ y. are_alike x y ≡ false))

  at_the_end :
      (r : Bool) (s t u v : List A) (o p : Option (Bor A))
      → gives s o u → gives t p v → Decides r o p → r ≡ pointwise equal s t
  at_the_end r s t u v None None left right is = is ∙ sym (rw (left.0, right.0) refl)
  at_the_end r s t u v None (Some y) left right is = is ∙ sym (rw (left.0, right) refl)
  at_the_end r s t u v (Some x) None left right is = is.0 ∙ sym (rw (left, right.0) refl)
  at_the_end r s t u v (Some x) (Some y) left right is =
      is.0 ∙ sym (rw (left, right) (ap (λ b. b && pointwise equal u v) is.1))

  pub compares :
      (r : Bool) (xs ys : List (Bor A)) (s t u v : List A) (o p : Option (Bor A))
      → YieldsThen gives s xs o u
      → YieldsThen gives t ys p v
      → AllZip (λ x y. are_alike x y ≡ true) xs ys
      → Decides r o p
      → r ≡ pointwise equal s t
  compares r [] [] s t u v o p (s', same, left) (t', also, right) alike is =
      rw (same, also) (at_the_end r s' t' u v o p left right is)
  compares r [] (y ∷ ys) s t u v o p left right alike is = absurd alike
  compares r (x ∷ xs) [] s t u v o p left right alike is = absurd alike
  compares r (x ∷ xs) (y ∷ ys) s t u v o p (s', (j, step, more), left) (t', (k, also, further), right) alike is =
      let rest = compares r xs ys j k u v o p (s', more, left) (t', further, right) alike.1 is in
      rest ∙ sym (rw (step, also) (ap (λ b. b && pointwise equal j k) alike.0))
