-- Equality of maps by their items: its laws, and that one way of it and the numbers of items are enough.
use Rattle.std.proofs.Common.{◌≡◌, ◌∙◌, ℕ, zero, suc, ◌≤◌, Bool, true, false, ◌&&◌, ◌||◌, List, [], ◌∷◌, ◌++◌, length, get_or, Option, Some, None, refl, sym, ap, subst, arith, true≢false}
use Rattle.std.specs.Cmp.{IsPartialEquivalence, IsEquivalence, partial_equiv_from_equiv, first_so, second_so, both_ways}
use Rattle.std.specs.List.{IsDistinct, AllByRecursion, list_any}
use Rattle.std.specs.Ordering.{eq_of_both}
use Rattle.std.proofs.lemmas.List.{length-append}
use Rattle.std.proofs.lemmas.List.Folds.{list_all-append, list_any-append}
use Rattle.iddqd.specs.Store.{Store, get, live_count}
use Rattle.iddqd.specs.LiveItems.{items_in, live_items}
use Rattle.iddqd.proofs.LiveItemLemmas.{length-items_in}
use Rattle.iddqd_keys.specs.Scan.{IsLive, HasNoHit, AnswersScan, AreApart}
use Rattle.iddqd_map.specs.Map.{FindsItem}
use Rattle.iddqd_map.specs.Equality.{each_among, has_same_items}
use Rattle.iddqd_map.specs.EqualityLaws.{both_true, or_true, or_cases, same_laws}

module _ {T : Type 0} (same : T → T → Bool) where
  -- one item more in the second
  among_more : (zs xs : List T) (x : T) → each_among same zs xs ≡ true → each_among same zs (x ∷ xs) ≡ true
  among_more [] xs x each = refl
  among_more (z ∷ zs) xs x each =
      let here = first_so (list_any (same z) xs) (each_among same zs xs) each in
      both_true (same z x || list_any (same z) xs) (each_among same zs (x ∷ xs))
      (ap (λ b. same z x || b) here ∙ or_true (same z x))
      (among_more zs xs x (second_so (list_any (same z) xs) (each_among same zs xs) each))

  -- the first that is the same
  record Split (x : T) (ys : List T) : Type 0 where
    front : List T
    there : T
    back : List T
    whole : ys ≡ front ++ there ∷ back
    is : same x there ≡ true

  split_at : (x : T) (ys : List T) → list_any (same x) ys ≡ true → Split x ys
  split_at x [] h = absurd (true≢false (sym h))
  split_at x (y ∷ ys) h = or_cases (same x y) (list_any (same x) ys) h
      (λ first. record { front = []; there = y; back = ys; whole = refl; is = first })
      (λ _ later.
      let rest = split_at x ys later in
      record { front = y ∷ rest.front; there = rest.there; back = rest.back; whole = ap (λ l. y ∷ l) rest.whole; is = rest.is })

  -- what isn't the same as the one there has one among the others
  any_but :
      (z : T) (front back : List T) (there : T)
      → same z there ≡ false
      → list_any (same z) (front ++ there ∷ back) ≡ true
      → list_any (same z) (front ++ back) ≡ true
  any_but z front back there other h =
      list_any-append (same z) front back
      ∙ ap (λ b. list_any (same z) front || (b || list_any (same z) back)) (sym other)
      ∙ sym (list_any-append (same z) front (there ∷ back)) ∙ h

  -- `alike` holds of items that have the same key
  module _
      (alike : T → T → Bool) (laws : IsPartialEquivalence alike)
      (keyed : (x y : T) → same x y ≡ true → alike x y ≡ true) (turn : (x y : T) → same x y ≡ same y x)
    where
      differs_from :
          (x z there : T)
          → alike x z ≡ false
          → same x there ≡ true
          → (b : Bool)
          → same z there ≡ b
          → b ≡ false
      differs_from x z there apart is true also =
          absurd (true≢false (sym (laws.trans x there z (keyed x there is) (laws.symm there z ∙ keyed z there also)) ∙ apart))
      differs_from x z there apart is false also = refl

      each_but :
          (x : T) (xs front back : List T) (there : T)
          → AllByRecursion (λ z. alike x z ≡ false) xs
          → same x there ≡ true
          → each_among same xs (front ++ there ∷ back) ≡ true
          → each_among same xs (front ++ back) ≡ true
      each_but x [] front back there apart is each = refl
      each_but x (z ∷ xs) front back there apart is each =
          let here = first_so (list_any (same z) (front ++ there ∷ back)) (each_among same xs (front ++ there ∷ back)) each in
          let other = differs_from x z there apart.0 is (same z there) refl in
          both_true (list_any (same z) (front ++ back)) (each_among same xs (front ++ back)) (any_but z front back there other here)
          (each_but x xs front back there apart.1 is (second_so (list_any (same z) (front ++ there ∷ back)) (each_among same xs (front ++ there ∷ back)) each))

      -- Where no two of the first are alike, each has one of its own among the second: so there are at least as many of
      -- these, and where there are no more, each of them has one among the first.
      record Covers (xs ys : List T) : Type 0 where
        fits : length xs ≤ length ys
        back : length ys ≤ length xs → each_among same ys xs ≡ true

      covers : (xs ys : List T) → IsDistinct alike xs → each_among same xs ys ≡ true → Covers xs ys
      unfolding IsDistinct
      covers [] [] distinct each = record { fits = omega arith; back = λ _. refl }
      covers [] (y ∷ ys) distinct each = record { fits = omega arith; back = λ fewer. absurd (omega arith) }
      covers (x ∷ xs) ys distinct each =
          let split = split_at x ys (first_so (list_any (same x) ys) (each_among same xs ys) each) in
          let rest : each_among same xs (split.front ++ split.there ∷ split.back) ≡ true =
          subst (λ l. each_among same xs l ≡ true) split.whole (second_so (list_any (same x) ys) (each_among same xs ys) each) in
          let others = covers xs (split.front ++ split.back) distinct.1 (each_but x xs split.front split.back split.there distinct.0 split.is rest) in
          let long = ap length split.whole ∙ length-append split.front (split.there ∷ split.back) in
          let short = length-append split.front split.back in
          let fits = others.fits in
          record {
            fits = omega arith;
            back = λ fewer.
                let all = among_more (split.front ++ split.back) xs x (others.back (omega arith)) in
                let parts = sym (list_all-append (λ z. list_any (same z) (x ∷ xs)) split.front split.back) ∙ all in
                let front = first_so (each_among same split.front (x ∷ xs)) (each_among same split.back (x ∷ xs)) parts in
                let back = second_so (each_among same split.front (x ∷ xs)) (each_among same split.back (x ∷ xs)) parts in
                let there : list_any (same split.there) (x ∷ xs) ≡ true =
                ap (λ b. b || list_any (same split.there) xs) (turn split.there x ∙ split.is) in
                subst (λ l. each_among same l (x ∷ xs) ≡ true) (sym split.whole)
                (list_all-append (λ z. list_any (same z) (x ∷ xs)) split.front (split.there ∷ split.back)
                ∙ both_true (each_among same split.front (x ∷ xs)) (each_among same (split.there ∷ split.back) (x ∷ xs)) front
                (both_true (list_any (same split.there) (x ∷ xs)) (each_among same split.back (x ∷ xs)) there back));
          }

      module _
          (s t : Store T) (apart_s : IsDistinct alike (live_items s)) (apart_t : IsDistinct alike (live_items t))
        where
          fewer : each_among same (live_items s) (live_items t) ≡ true → live_count s ≤ live_count t
          fewer each =
              let fits = (covers (live_items s) (live_items t) apart_s each).fits in
              let mine = length-items_in s.items in
              let theirs = length-items_in t.items in
              omega arith

          -- stores with other numbers of items
          pub same_items-unequal : (live_count s ≡ live_count t → ⊥) → false ≡ has_same_items same s t
          same_items-unequal other = sym (none (has_same_items same s t) refl)
            where
              none : (b : Bool) → has_same_items same s t ≡ b → b ≡ false
              none false is = refl
              none true is =
                  let one = first_so (each_among same (live_items s) (live_items t)) (each_among same (live_items t) (live_items s)) is in
                  let two = second_so (each_among same (live_items s) (live_items t)) (each_among same (live_items t) (live_items s)) is in
                  let at_most = fewer one in
                  let turned = (covers (live_items t) (live_items s) apart_t two).fits in
                  let mine = length-items_in s.items in
                  let theirs = length-items_in t.items in
                  absurd (other (omega arith))

          -- stores with as many items: one way is enough
          pub same_items-equal :
              live_count s ≡ live_count t
              → each_among same (live_items s) (live_items t) ≡ has_same_items same s t
          same_items-equal as_many = both_ways (each_among same (live_items s) (live_items t)) (has_same_items same s t)
              (λ one.
              let back = (covers (live_items s) (live_items t) apart_s one).back in
              let mine = length-items_in s.items in
              let theirs = length-items_in t.items in
              both_true (each_among same (live_items s) (live_items t)) (each_among same (live_items t) (live_items s)) one (back (omega arith)))
              (λ both. first_so (each_among same (live_items s) (live_items t)) (each_among same (live_items t) (live_items s)) both)

-- the items of slots, and a test
module _ {T : Type 0} (test : T → Bool) where
  pub none_among :
      (slots : List (Option T))
      → ((ix : ℕ) (z : T) → get_or slots ix None ≡ Some z → test z ≡ false)
      → list_any test (items_in slots) ≡ false
  none_among [] none = refl
  none_among (None ∷ slots) none = none_among slots (λ ix. none (suc ix))
  none_among (Some z ∷ slots) none = ap (λ b. b || list_any test (items_in slots)) (none zero z refl) ∙ none_among slots (λ ix. none (suc ix))

  pub some_among :
      (slots : List (Option T)) (ix : ℕ) (z : T)
      → get_or slots ix None ≡ Some z
      → test z ≡ true
      → list_any test (items_in slots) ≡ true
  some_among [] ix z is passes = absurd (cc)
  some_among (None ∷ slots) zero z is passes = absurd (cc)
  some_among (None ∷ slots) (suc ix) z is passes = some_among slots ix z is passes
  some_among (Some y ∷ slots) zero z is passes =
      let same : y ≡ z = cc in
      ap (λ b. b || list_any test (items_in slots)) (ap test same ∙ passes)
  some_among (Some y ∷ slots) (suc ix) z is passes = ap (λ b. test y || b) (some_among slots ix z is passes) ∙ or_true (test y)

module _ {T : Type 0} (alike : T → T → Bool) where
  apart_from :
      (x : T) (slots : List (Option T))
      → ((ix : ℕ) (z : T) → get_or slots ix None ≡ Some z → alike x z ≡ true → ⊥)
      → AllByRecursion (λ z. alike x z ≡ false) (items_in slots)
  apart_from x [] none = tt
  apart_from x (None ∷ slots) none = apart_from x slots (λ ix. none (suc ix))
  apart_from x (Some z ∷ slots) none = (unlike (alike x z) refl, apart_from x slots (λ ix. none (suc ix)))
    where
      unlike : (b : Bool) → alike x z ≡ b → b ≡ false
      unlike true is = absurd (none zero z refl is)
      unlike false is = refl

  distinct_in :
      (slots : List (Option T))
      → ((i j : ℕ) (x y : T) → get_or slots i None ≡ Some x → get_or slots j None ≡ Some y → alike x y ≡ true → i ≡ j)
      → IsDistinct alike (items_in slots)
  unfolding IsDistinct
  distinct_in [] apart = tt
  distinct_in (None ∷ slots) apart = distinct_in slots (λ i j x y p q same. (let one = apart (suc i) (suc j) x y p q same in omega arith))
  distinct_in (Some x ∷ slots) apart = (
    apart_from x slots (λ ix z is same. (let one = apart zero (suc ix) x z refl is same in omega arith)),
    distinct_in slots (λ i j x y p q same. (let one = apart (suc i) (suc j) x y p q same in omega arith)),
  )

  -- items no two of which share a key are distinct
  pub IsDistinct-apart : (s : Store T) → AreApart alike s → IsDistinct alike (live_items s)
  IsDistinct-apart s apart = distinct_in s.items apart

  -- whether the one item that shares the key is equal, if there is one
  module _ (equal : T → T → Bool) (x : T) (s : Store T) where
    pub any_missed : HasNoHit s (alike x) → list_any (eq_of_both alike equal x) (live_items s) ≡ false
    any_missed none = none_among (eq_of_both alike equal x) s.items (λ ix z is. unlike ix z is (alike x z) refl)
      where
        unlike : (ix : ℕ) (z : T) → get s ix ≡ Some z → (b : Bool) → alike x z ≡ b → (b && equal x z) ≡ false
        unlike ix z is true passed = absurd (none ix (z, is, passed))
        unlike ix z is false passed = refl

    pub any_found :
        (y : T)
        → FindsItem s (alike x) (Some y)
        → list_any (eq_of_both alike equal x) (live_items s) ≡ equal x y
    any_found y (ix, found) = by (equal x y) refl
      where
        passed : alike x y ≡ true
        passed =
            let (z, is, passed) = (found.only ix).1 refl in
            let one : Some z ≡ Some y = sym is ∙ found.live in
            let same : z ≡ y = cc in
            ap (alike x) (sym same) ∙ passed

        only :
            (j : ℕ) (z : T)
            → get s j ≡ Some z
            → (b : Bool)
            → alike x z ≡ b
            → equal x y ≡ false
            → (b && equal x z) ≡ false
        only j z is false passed differs = refl
        only j z is true passed differs =
            let at : j ≡ ix = (found.only j).0 (z, is, passed) in
            let one : Some z ≡ Some y = sym is ∙ ap (get s) at ∙ found.live in
            let same : z ≡ y = cc in
            ap (equal x) same ∙ differs

        by : (b : Bool) → equal x y ≡ b → list_any (eq_of_both alike equal x) (live_items s) ≡ b
        by true is = some_among (eq_of_both alike equal x) s.items ix y found.live (both_true (alike x y) (equal x y) passed is)
        by false is = none_among (eq_of_both alike equal x) s.items (λ j z here. only j z here (alike x z) refl is)

-- `alike` is equality of keys, and `equal` that of items
module _ {T : Type 0} (alike equal : T → T → Bool) where
  abbrev same : T → T → Bool
  same = eq_of_both alike equal

  -- maps with other numbers of items
  module _
      (a : IsEquivalence alike) (b : IsPartialEquivalence equal) (s t : Store T) (apart_s : AreApart alike s)
      (apart_t : AreApart alike t)
    where
      pub unequal_counts : (live_count s ≡ live_count t → ⊥) → false ≡ has_same_items same s t
      unequal_counts other =
          same_items-unequal same alike (partial_equiv_from_equiv a) (λ x y. first_so (alike x y) (equal x y)) (same_laws alike equal a b).symm s t (IsDistinct-apart alike s apart_s) (IsDistinct-apart alike t apart_t) other

      -- and with as many: each item of the first has one that is the same in the second
      pub equal_counts :
          live_count s ≡ live_count t
          → each_among same (live_items s) (live_items t) ≡ has_same_items same s t
      equal_counts as_many =
          same_items-equal same alike (partial_equiv_from_equiv a) (λ x y. first_so (alike x y) (equal x y)) (same_laws alike equal a b).symm s t (IsDistinct-apart alike s apart_s) (IsDistinct-apart alike t apart_t) as_many

-- the index that a scan answers is live, and its item is the one that passes
module _ {T : Type 0} (s : Store T) (test : T → Bool) (ix : ℕ) where
  pub IsLive-scanned : AnswersScan s test (Some ix) → IsLive s ix
  IsLive-scanned scan = let (item, live, passes) = (scan ix).1 refl in rw live refl

  pub FindsItem-scanned :
      (item : T)
      → AnswersScan s test (Some ix)
      → get s ix ≡ Some item
      → FindsItem s test (Some item)
  FindsItem-scanned item scan live = (ix, record { live = live; only = scan })

-- where items are apart by one test, they are by a stronger one
pub AreApart-stronger :
    {T : Type 0} (same alike : T → T → Bool)
    → ((x y : T) → same x y ≡ true → alike x y ≡ true)
    → (s : Store T)
    → AreApart alike s
    → AreApart same s
AreApart-stronger same alike stronger s apart i j x y at_i at_j is = apart i j x y at_i at_j (stronger x y is)
