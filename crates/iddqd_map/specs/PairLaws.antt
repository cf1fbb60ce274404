-- What two key indexes of the same items mean together.
use Rattle.std.proofs.Common.{◌≡◌, ◌∙◌, inl, inr, ◌⊎◌, ◌&&◌, ◌||◌, ◌↔◌, ◌≤◌, ◌+◌, ℕ, Bool, true, false, not, List, ◌++◌, [], length, min, Option, Some, None, refl, sym, subst, arith}
use Rattle.std.specs.Cmp.{first_so, second_so}
use Rattle.std.specs.List.{Contains}
use Rattle.std.proofs.lemmas.List.Elements.{Contains-append_left, Contains-append_right}
use Rattle.std.proofs.lemmas.List.{length-append}
use Rattle.std.proofs.lemmas.Bool.{cases_lt}
use Rattle.iddqd.specs.Store.{Store, get}
use Rattle.iddqd_keys.specs.Scan.{IsHit, HasNoHit, AnswersScan, AreApart}
use Rattle.iddqd_map.specs.EqualityLaws.{both_true}
use Rattle.iddqd_map.specs.KeyIndex.{HaveSameKeys, IsNextReported}
use Rattle.iddqd_map.specs.OneKey.{IsReported}
use Rattle.iddqd_map.specs.PairConflict.{Reports, ReportBoth, IsReportedBy, IsEither, lesser_of}
use Rattle.iddqd_map.specs.Several.{either_key, both_keys, HasNoOther}

-- two parts that are nothing are nothing together
pub sum_none : {a b : ℕ} → a ≡ 0 → b ≡ 0 → a + b ≡ 0
sum_none none none_too = omega (arith, none, none_too)

-- and two parts that grow grow together
pub sum_grows : {a b c d : ℕ} → a ≤ b → c ≤ d → a + c ≤ b + d
sum_grows one other = omega (arith, one, other)

either_true : (a b : Bool) → (a || b) ≡ true → (a ≡ true) ⊎ (b ≡ true)
either_true true b is = inl refl
either_true false b is = inr is

left_true : (a b : Bool) → a ≡ true → (a || b) ≡ true
left_true true b is = refl
left_true false b is = absurd (cc)

right_true : (a b : Bool) → b ≡ true → (a || b) ≡ true
right_true true b is = refl
right_true false b is = is

module _ {T : Type 0} (first second : T → T → Bool) (x y : T) where
  -- items that share a key of one of two share a key of either
  pub alike_first : first x y ≡ true → either_key first second x y ≡ true
  alike_first is = left_true (first x y) (second x y) is

  pub alike_second : second x y ≡ true → either_key first second x y ≡ true
  alike_second is = right_true (first x y) (second x y) is

-- where one of the two reports nothing, no item shares a key of it
pub reports_none :
    {T : Type 0} (alike at_key : T → T → Bool)
    → ((x y : T) → at_key x y ≡ true → alike x y ≡ true)
    → (s : Store T) (item : T)
    → HasNoHit s (alike item)
    → HasNoHit s (at_key item)
reports_none alike at_key alike_there s item none ix hit = none ix (hit.0, hit.1, alike_there item hit.0 hit.2)

-- the index that a table by a unique key reported, if it reported one, is what a scan answers
pub reported_scan :
    {T : Type 0} (alike : T → T → Bool) (s : Store T) (item : T) (reported : Option ℕ)
    → Reports alike (IsReported alike) s item reported
    → AnswersScan s (alike item) reported
reported_scan alike s item None none = none
reported_scan alike s item (Some at) is = is

-- one of two moves if and only if not both keys stay
pub moves_either : (m n a b : Bool) → m ≡ not a → n ≡ not b → (m || n) ≡ not (a && b)
moves_either m n true b one two = rw (one, two) refl
moves_either m n false b one two = rw one refl

module _ {T : Type 0} (first second : T → T → Bool) (s : Store T) (item : T) where
  pub IsHit-either :
      (ix : ℕ)
      → IsHit s (either_key first second item) ix ↔ (IsHit s (first item) ix ⊎ IsHit s (second item) ix)
  IsHit-either ix = (
    λ hit. let (x, is, passed) = hit in
        elim (either_true (first item x) (second item x) passed) [
          | inl one ↦ inl (x, is, one)
          | inr two ↦ inr (x, is, two)
        ],
    λ hit. elim hit [
      | inl one ↦ let (x, is, passed) = one in (x, is, left_true (first item x) (second item x) passed)
      | inr two ↦ let (x, is, passed) = two in (x, is, right_true (first item x) (second item x) passed)
    ],
  )

  pub HasNoHit-either : HasNoHit s (first item) → HasNoHit s (second item) → HasNoHit s (either_key first second item)
  HasNoHit-either one two ix hit = elim ((IsHit-either ix).0 hit) [ inl h ↦ one ix h | inr h ↦ two ix h ]

  pub HasNoHit-first : HasNoHit s (either_key first second item) → HasNoHit s (first item)
  HasNoHit-first none ix hit = none ix ((IsHit-either ix).1 (inl hit))

  pub HasNoHit-second : HasNoHit s (either_key first second item) → HasNoHit s (second item)
  HasNoHit-second none ix hit = none ix ((IsHit-either ix).1 (inr hit))

  pub HasNoOther-either :
      (ix : ℕ)
      → HasNoOther s (first item) ix
      → HasNoOther s (second item) ix
      → HasNoOther s (either_key first second item) ix
  HasNoOther-either ix one two j hit = elim ((IsHit-either j).0 hit) [ inl h ↦ one j h | inr h ↦ two j h ]

module _ {T : Type 0} (first second : T → T → Bool) where
  -- items that share neither key with another
  pub AreApart-either : (s : Store T) → AreApart first s → AreApart second s → AreApart (either_key first second) s
  AreApart-either s one two i j x y p q alike =
      elim (either_true (first x y) (second x y) alike) [
        | inl same ↦ one i j x y p q same
        | inr same ↦ two i j x y p q same
      ]

  -- items that share both keys share each
  pub HaveSameKeys-first : (s t : Store T) → HaveSameKeys (both_keys first second) s t → HaveSameKeys first s t
  HaveSameKeys-first s t same = record {
    items_of_t = λ ix y live.
        let (x, is, alike) = same.items_of_t ix y live in
        (x, is, first_so (first x y) (second x y) alike);
    items_of_s = λ ix x live.
        let (y, is, alike) = same.items_of_s ix x live in
        (y, is, first_so (first x y) (second x y) alike);
    as_many_slots = same.as_many_slots;
  }

  pub HaveSameKeys-second : (s t : Store T) → HaveSameKeys (both_keys first second) s t → HaveSameKeys second s t
  HaveSameKeys-second s t same = record {
    items_of_t = λ ix y live.
        let (x, is, alike) = same.items_of_t ix y live in
        (x, is, second_so (first x y) (second x y) alike);
    items_of_s = λ ix x live.
        let (y, is, alike) = same.items_of_s ix x live in
        (y, is, second_so (first x y) (second x y) alike);
    as_many_slots = same.as_many_slots;
  }

  -- if sharing all keys of the first key index means sharing one of them, the same holds of the pair
  pub alike_both :
      (alike : T → T → Bool)
      → ((x y : T) → first x y ≡ true → alike x y ≡ true)
      → (other : T → T → Bool) (x y : T)
      → both_keys first second x y ≡ true
      → either_key alike other x y ≡ true
  alike_both alike so other x y both =
      left_true (alike x y) (other x y) (so x y (first_so (first x y) (second x y) both))

-- the indexes that either reports fit in one list, whose length is at most the sum of both numbers
pub few_both :
    (one other : ℕ → Type 0) (m n : ℕ)
    → ((l : List ℕ) × (length l ≤ m) × ((ix : ℕ) → one ix → Contains l ix))
    → ((l : List ℕ) × (length l ≤ n) × ((ix : ℕ) → other ix → Contains l ix))
    → (l : List ℕ) × (length l ≤ m + n) × ((ix : ℕ) → one ix ⊎ other ix → Contains l ix)
few_both one other m n (k, few, holds) (l, few_too, holds_too) = (
  k ++ l,
  omega (arith, length-append k l, few, few_too),
  λ ix reported. elim reported [
    | inl here ↦ Contains-append_left k l ix (holds ix here)
    | inr there ↦ Contains-append_right k l ix (holds_too ix there)
  ],
)

-- what one of the two reported, if it reported anything
module _ {C : Type 0} (reports : C → ℕ → Type 0) where
  pub reported_by_one :
      {T : Type 0} (alike : T → T → Bool) (conflicts : Store T → T → C → Type 0) (s : Store T) (item : T)
      → ((at : C) → conflicts s item at → (ix : ℕ) → reports at ix ↔ IsHit s (alike item) ix)
      → (found : Option C)
      → Reports alike conflicts s item found
      → (ix : ℕ) → IsReportedBy reports found ix ↔ IsHit s (alike item) ix
  reported_by_one alike conflicts s item law None none ix = (λ reported. absurd reported, λ hit. none ix hit)
  reported_by_one alike conflicts s item law (Some at) reported ix = law at reported ix

  pub few_by_one :
      (n : ℕ)
      → ((at : C) → (l : List ℕ) × (length l ≤ n) × ((ix : ℕ) → reports at ix → Contains l ix))
      → (found : Option C)
      → (l : List ℕ) × (length l ≤ n) × ((ix : ℕ) → IsReportedBy reports found ix → Contains l ix)
  few_by_one n law None = ([], omega arith, λ ix reported. absurd reported)
  few_by_one n law (Some at) = law at

-- an index is reported by either if and only if its item shares a key of either
pub reported_both :
    {T : Type 0} (first second : T → T → Bool) (s : Store T) (item : T) (one other : ℕ → Type 0) (ix : ℕ)
    → one ix ↔ IsHit s (first item) ix
    → other ix ↔ IsHit s (second item) ix
    → (one ix ⊎ other ix) ↔ IsHit s (either_key first second item) ix
reported_both first second s item one other ix a b =
    let both = IsHit-either first second s item ix in (
      λ reported. both.1 (elim reported [ inl here ↦ inl (a.0 here) | inr there ↦ inr (b.0 there) ]),
      λ hit. elim (both.0 hit) [ inl here ↦ inl (a.1 here) | inr there ↦ inr (b.1 there) ],
    )

-- one of the two reported an index
pub reported_some :
    {T C D : Type 0} (reports : C → ℕ → Type 0) (reports_too : D → ℕ → Type 0)
    (conflicts : Store T → T → C → Type 0) (conflicts_too : Store T → T → D → Type 0) (s : Store T) (item : T)
    (alike alike_too : T → T → Bool)
    → ((at : C) → conflicts s item at → (ix : ℕ) × reports at ix)
    → ((at : D) → conflicts_too s item at → (ix : ℕ) × reports_too at ix)
    → (one : Option C) (other : Option D)
    → ReportBoth alike alike_too conflicts conflicts_too s item one other
    → (ix : ℕ) × IsEither (IsReportedBy reports one) (IsReportedBy reports_too other) ix
reported_some reports reports_too conflicts conflicts_too s item alike alike_too law law_too (Some at) other reported =
    let (ix, is) = law at reported.first in
    (ix, inl is)
reported_some reports reports_too conflicts conflicts_too s item alike alike_too law law_too None (Some at) reported =
    let (ix, is) = law_too at reported.second in
    (ix, inr is)
reported_some reports reports_too conflicts conflicts_too s item alike alike_too law law_too None None reported =
    elim reported.some [ inl none ↦ absurd (cc) | inr none ↦ absurd (cc) ]

-- the next index that one of the two reports is the lesser of the next of each
pub IsNextReported-lesser :
    (reported reported_too : ℕ → Type 0) (before one other : Option ℕ)
    → IsNextReported reported before one
    → IsNextReported reported_too before other
    → IsNextReported (IsEither reported reported_too) before (lesser_of one other)
IsNextReported-lesser reported reported_too before None None a b =
    λ ix is past. elim is [ inl here ↦ a ix here past | inr there ↦ b ix there past ]
IsNextReported-lesser reported reported_too before (Some x) None a b = (
  inl a.0,
  a.1,
  λ ix is past less. elim is [ inl here ↦ a.2 ix here past less | inr there ↦ b ix there past ],
)
IsNextReported-lesser reported reported_too before None (Some y) a b = (
  inr b.0,
  b.1,
  λ ix is past less. elim is [ inl here ↦ a ix here past | inr there ↦ b.2 ix there past less ],
)
IsNextReported-lesser reported reported_too before (Some x) (Some y) a b =
    elim (cases_lt x y) [
      | inl less ↦
          let is : min x y ≡ x = omega (arith, less) in
          rw is (
            inl a.0,
            a.1,
            λ ix reported past below. elim reported [
              | inl here ↦ a.2 ix here past below
              | inr there ↦ b.2 ix there past (omega (arith, below, less))
            ],
          )
      | inr most ↦
          let is : min x y ≡ y = omega (arith, most) in
          rw is (
            inr b.0,
            b.1,
            λ ix reported past below. elim reported [
              | inl here ↦ a.2 ix here past (omega (arith, below, most))
              | inr there ↦ b.2 ix there past below
            ],
          )
    ]

-- an item shares all keys if and only if it shares those of the first key index and those of the second
module _ {T : Type 0} (first second : T → T → Bool) (s : Store T) (item : T) where
  pub HasNoHit-both : HasNoHit s (first item) → HasNoHit s (both_keys first second item)
  HasNoHit-both none ix (x, is, same) = none ix (x, is, first_so (first item x) (second item x) same)

  module _ (ix : ℕ) (there : T) (live : get s ix ≡ Some there) (scan : AnswersScan s (first item) (Some ix)) where
    is_there : (x : T) → get s ix ≡ Some x → x ≡ there
    is_there x is = (let one : Some x ≡ Some there = sym is ∙ live in cc)

    pub AnswersScan-both : second item there ≡ true → AnswersScan s (both_keys first second item) (Some ix)
    AnswersScan-both same j = (
      λ hit. (let (x, is, both) = hit in (scan j).0 (x, is, first_so (first item x) (second item x) both)),
      λ here. (
          let (x, is, one) = (scan ix).1 refl in
          let other : second item x ≡ true = subst (λ z. second item z ≡ true) (sym (is_there x is)) same in
          subst (IsHit s (both_keys first second item)) (sym here)
          (x, is, both_true (first item x) (second item x) one other)),
    )

    pub HasNoHit-unlike : second item there ≡ false → HasNoHit s (both_keys first second item)
    HasNoHit-unlike unlike j (x, is, both) =
        let one : first item x ≡ true = first_so (first item x) (second item x) both in
        let other : second item x ≡ true = second_so (first item x) (second item x) both in
        let at : j ≡ ix = (scan j).0 (x, is, one) in
        let same : x ≡ there = is_there x (subst (λ k. get s k ≡ Some x) at is) in
        let known : second item there ≡ true = subst (λ z. second item z ≡ true) same other in
        absurd (cc)
