-- At most three indexes in order: what is among them.
use Rattle.std.proofs.Common.{◌≡◌, ◌⊎◌, inl, inr, ◌↔◌, ◌<◌, ◌≤◌, ℕ, List, [], ◌∷◌, length, filter_map, Option, Some, None, IsSome, refl, sym, ap, subst, arith}
use Rattle.std.specs.List.{Contains}
use Rattle.iddqd.proofs.StoreLemmas.{contains_head, contains_tail, contains_cases, contains_none}
use Rattle.iddqd_tri.specs.Clashes.{IsBefore, IsOneOf, IsOneOfTwo, AreInOrder}
use Rattle.iddqd_keys.specs.Removals.{IsIncreasing}

-- two steps and a third put three in order
module _
    (one two three low high low2 mid mid2 high2 : Option ℕ) (a : IsBefore low high)
    (a_same : (ix : ℕ) → IsOneOfTwo low high ix ↔ IsOneOfTwo one two ix) (b : IsBefore low2 mid)
    (b_same : (ix : ℕ) → IsOneOfTwo low2 mid ix ↔ IsOneOfTwo low three ix) (c : IsBefore mid2 high2)
    (c_same : (ix : ℕ) → IsOneOfTwo mid2 high2 ix ↔ IsOneOfTwo high mid ix)
  where
    low_first : IsBefore low2 high
    low_first y is =
        let (x, low_is, less) = a y is in
        elim ((b_same x).1 (inl low_is)) [
          | inl here ↦ (x, here, less)
          | inr behind ↦ let (w, here, below) = b x behind in (w, here, omega (arith, below, less))
        ]

    pub AreInOrder-sorted : AreInOrder low2 mid2 high2
    AreInOrder-sorted = record {
      first_second = λ y is. elim ((c_same y).0 (inl is)) [ inl high_is ↦ low_first y high_is | inr mid_is ↦ b y mid_is ];
      second_third = c;
    }

    pub IsOneOf-sorted : (ix : ℕ) → IsOneOf low2 mid2 high2 ix ↔ IsOneOf one two three ix
    IsOneOf-sorted ix = (
      λ here. elim here [
        | inl low_is ↦ back (inl low_is)
        | inr rest ↦ elim ((c_same ix).0 rest) [
          | inl high_is ↦ within ((a_same ix).0 (inr high_is))
          | inr mid_is ↦ back (inr mid_is)
        ]
      ],
      λ there. elim there [
        | inl one_is ↦ forth ((a_same ix).1 (inl one_is))
        | inr rest ↦ elim rest [
          | inl two_is ↦ forth ((a_same ix).1 (inr two_is))
          | inr three_is ↦ lower ((b_same ix).1 (inr three_is))
        ]
      ],
    )
      where
        within : IsOneOfTwo one two ix → IsOneOf one two three ix
        within (inl one_is) = inl one_is
        within (inr two_is) = inr (inl two_is)

        back : IsOneOfTwo low2 mid ix → IsOneOf one two three ix
        back is = elim ((b_same ix).0 is) [
          | inl low_is ↦ within ((a_same ix).0 (inl low_is))
          | inr three_is ↦ inr (inr three_is)
        ]

        lower : IsOneOfTwo low2 mid ix → IsOneOf low2 mid2 high2 ix
        lower (inl low_is) = inl low_is
        lower (inr mid_is) = inr ((c_same ix).1 (inr mid_is))

        forth : IsOneOfTwo low high ix → IsOneOf low2 mid2 high2 ix
        forth (inl low_is) = lower ((b_same ix).1 (inl low_is))
        forth (inr high_is) = inr ((c_same ix).1 (inl high_is))

-- the options as the list of those that are there
abbrev pub listed : Option ℕ → Option ℕ → Option ℕ → List ℕ
listed a b c = filter_map (λ ix. ix) (a ∷ b ∷ c ∷ [])

-- how three in order may be there
data View : Option ℕ → Option ℕ → Option ℕ → Type 0 where
  none_there : View None None None
  one_there : {x : ℕ} → View (Some x) None None
  two_there : {x y : ℕ} → x < y → View (Some x) (Some y) None
  three_there : {x y z : ℕ} → x < y → y < z → View (Some x) (Some y) (Some z)

before_less : (x y : ℕ) → IsBefore (Some x) (Some y) → x < y
before_less x y before = let (w, same, less) = before y refl in let e : x ≡ w = cc in omega (arith, e, less)

none_before : (y : ℕ) → IsBefore None (Some y) → ⊥
none_before y before = let (w, same, less) = before y refl in cc

view : (a b c : Option ℕ) → AreInOrder a b c → View a b c
view None None None o = none_there
view (Some x) None None o = one_there
view (Some x) (Some y) None o = two_there (before_less x y o.first_second)
view (Some x) (Some y) (Some z) o = three_there (before_less x y o.first_second) (before_less y z o.second_third)
view None (Some y) c o = absurd (none_before y o.first_second)
view a None (Some z) o = absurd (none_before z o.second_third)

module _ (ix : ℕ) where
  contains_option :
      (o : Option ℕ) (rest : List (Option ℕ))
      → Contains (filter_map (λ ix. ix) (o ∷ rest)) ix ↔ ((o ≡ Some ix) ⊎ Contains (filter_map (λ ix. ix) rest) ix)
  contains_option None rest = (λ here. inr here, λ there. elim there [ inl is ↦ absurd (cc) | inr here ↦ here ])
  contains_option (Some x) rest = (
    λ here. elim (contains_cases x ix _ here) [ inl same ↦ inl (ap Some same) | inr behind ↦ inr behind ],
    λ there. elim there [
      | inl is ↦ let e : ix ≡ x = cc in subst (λ y. Contains (x ∷ filter_map (λ ix. ix) rest) y) (sym e) (contains_head x _)
      | inr behind ↦ contains_tail x ix _ behind
    ],
  )

  pub Contains-listed : (a b c : Option ℕ) → Contains (listed a b c) ix ↔ IsOneOf a b c ix
  Contains-listed a b c = (
    λ here. elim ((contains_option a (b ∷ c ∷ [])).0 here) [
      | inl is ↦ inl is
      | inr rest ↦ elim ((contains_option b (c ∷ [])).0 rest) [
        | inl is ↦ inr (inl is)
        | inr last ↦ elim ((contains_option c []).0 last) [
          | inl is ↦ inr (inr is)
          | inr none ↦ absurd (contains_none ix none)
        ]
      ]
    ],
    λ there. elim there [
      | inl is ↦ (contains_option a (b ∷ c ∷ [])).1 (inl is)
      | inr rest ↦ (contains_option a (b ∷ c ∷ [])).1 (inr (elim rest [
        | inl is ↦ (contains_option b (c ∷ [])).1 (inl is)
        | inr is ↦ (contains_option b (c ∷ [])).1 (inr ((contains_option c []).1 (inl is)))
      ]))
    ],
  )

less_of_one : (x y z : ℕ) → x < y → Contains (y ∷ []) z → x < z
less_of_one x y z less here = elim (contains_cases y z [] here) [
  | inl same ↦ omega (arith, same, less)
  | inr none ↦ absurd (contains_none z none)
]

pub IsIncreasing-listed : (a b c : Option ℕ) → AreInOrder a b c → IsIncreasing (listed a b c)
IsIncreasing-listed a b c o = by_view (view a b c o)
  where
    by_view : {a b c : Option ℕ} → View a b c → IsIncreasing (listed a b c)
    by_view none_there = tt
    by_view one_there = (λ y here. absurd (contains_none y here), tt)
    by_view (two_there {x} {y} less) = (λ z here. less_of_one x y z less here, (λ z here. absurd (contains_none z here), tt))
    by_view (three_there {x} {y} {z} less more) = (
      λ w here. elim (contains_cases y w (z ∷ []) here) [
        | inl same ↦ omega (arith, same, less)
        | inr last ↦ let above = less_of_one y z w more last in omega (arith, above, less)
      ],
      (λ w here. less_of_one y z w more here, (λ w here. absurd (contains_none w here), tt)),
    )

pub at_most_three : (a b c : Option ℕ) → AreInOrder a b c → length (listed a b c) ≤ 3
at_most_three a b c o = by_view (view a b c o)
  where
    by_view : {a b c : Option ℕ} → View a b c → length (listed a b c) ≤ 3
    by_view none_there = omega arith
    by_view one_there = omega arith
    by_view (two_there less) = omega arith
    by_view (three_there less more) = omega arith

pub some_there : (o : Option ℕ) → (o ≡ None → ⊥) → IsSome o
some_there None some = absurd (some refl)
some_there (Some x) some = refl

-- where the first is there, it is the first of the list
pub some_listed : (a b c : Option ℕ) → (a ≡ None → ⊥) → (x : ℕ) × (rest : List ℕ) × (listed a b c ≡ x ∷ rest)
some_listed None b c some = absurd (some refl)
some_listed (Some x) b c some = (x, filter_map (λ ix. ix) (b ∷ c ∷ []), refl)

-- where the first isn't there, none is
pub none_listed : (a b c : Option ℕ) → AreInOrder a b c → a ≡ None → listed a b c ≡ []
none_listed a b c o none = by_view (view a b c o) none
  where
    by_view : {a b c : Option ℕ} → View a b c → a ≡ None → listed a b c ≡ []
    by_view none_there none = refl
    by_view one_there none = absurd (cc)
    by_view (two_there less) none = absurd (cc)
    by_view (three_there less more) none = absurd (cc)
