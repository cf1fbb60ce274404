-- Equality of maps by their items is lawful if the equality of keys and the equality of items are.
use Rattle.std.specs.Prelude.{◌≡◌, Bool, true, false, ◌&&◌, ◌||◌, List, [], ◌∷◌, ◌++◌}
use Rattle.std.proofs.Common.{◌∙◌, refl, sym, ap, subst, append_assoc, true≢false}
use Rattle.std.specs.Cmp.{IsPartialEquivalence, IsEquivalence, equiv, partial_equiv_from_equiv, first_so, second_so}
use Rattle.std.specs.List.{list_any}
use Rattle.std.specs.Ordering.{eq_of_both}
use Rattle.iddqd.specs.Store.{Store}
use Rattle.iddqd.specs.LiveItems.{live_items}
use Rattle.iddqd_map.specs.Map.{MapState}
use Rattle.iddqd_map.specs.Equality.{each_among, has_same_items}

and_comm : (a b : Bool) → (a && b) ≡ (b && a)
and_comm true true = refl
and_comm true false = refl
and_comm false true = refl
and_comm false false = refl

pub both_true : (a b : Bool) → a ≡ true → b ≡ true → (a && b) ≡ true
both_true a b p q = ap (λ c. c && b) p ∙ q

pub or_true : (a : Bool) → (a || true) ≡ true
or_true true = refl
or_true false = refl

-- if one of two tests is true, the first is, or the first is false and the second is true
module _ {G : Type 0} where
  pub or_cases : (a b : Bool) → (a || b) ≡ true → (a ≡ true → G) → (a ≡ false → b ≡ true → G) → G
  or_cases true b h first second = first refl
  or_cases false b h first second = second refl h

module _ {T : Type 0} (same : T → T → Bool) where
  -- if `same` is transitive
  module _ (trans : (x y z : T) → same x y ≡ true → same y z ≡ true → same x z ≡ true) where
    any_as :
        (x y : T) (zs : List T)
        → same x y ≡ true
        → list_any (same y) zs ≡ true
        → list_any (same x) zs ≡ true
    any_as x y [] is h = h
    any_as x y (z ∷ zs) is h = or_cases (same y z) (list_any (same y) zs) h
        (λ first. ap (λ b. b || list_any (same x) zs) (trans x y z is first))
        (λ _ later. ap (λ b. same x z || b) (any_as x y zs is later) ∙ or_true (same x z))

    any_through :
        (x : T) (ys zs : List T)
        → list_any (same x) ys ≡ true
        → each_among same ys zs ≡ true
        → list_any (same x) zs ≡ true
    any_through x [] zs h each = absurd (true≢false (sym h))
    any_through x (y ∷ ys) zs h each = or_cases (same x y) (list_any (same x) ys) h
        (λ first. any_as x y zs first (first_so (list_any (same y) zs) (each_among same ys zs) each))
        (λ _ later. any_through x ys zs later (second_so (list_any (same y) zs) (each_among same ys zs) each))

    each_among-trans :
        (xs ys zs : List T)
        → each_among same xs ys ≡ true
        → each_among same ys zs ≡ true
        → each_among same xs zs ≡ true
    each_among-trans [] ys zs first second = refl
    each_among-trans (x ∷ xs) ys zs first second =
        both_true (list_any (same x) zs) (each_among same xs zs)
        (any_through x ys zs (first_so (list_any (same x) ys) (each_among same xs ys) first) second)
        (each_among-trans xs ys zs (second_so (list_any (same x) ys) (each_among same xs ys) first) second)

  -- if `same` is reflexive
  module _ (reflexive : (x : T) → same x x ≡ true) where
    any_at : (front back : List T) (x : T) → list_any (same x) (front ++ x ∷ back) ≡ true
    any_at [] back x = ap (λ b. b || list_any (same x) back) (reflexive x)
    any_at (y ∷ front) back x = ap (λ b. same x y || b) (any_at front back x) ∙ or_true (same x y)

    each_among-back : (front back : List T) → each_among same back (front ++ back) ≡ true
    each_among-back front [] = refl
    each_among-back front (x ∷ back) =
        both_true (list_any (same x) (front ++ x ∷ back)) (each_among same back (front ++ x ∷ back))
        (any_at front back x)
        (subst (λ l. each_among same back l ≡ true) (append_assoc front (x ∷ []) back)
        (each_among-back (front ++ x ∷ []) back))

  IsPartialEquivalence-same_items : IsPartialEquivalence same → IsPartialEquivalence (has_same_items same)
  IsPartialEquivalence-same_items laws = record {
    symm = λ s t.
        and_comm (each_among same (live_items s) (live_items t)) (each_among same (live_items t) (live_items s));
    trans = λ s t u one other.
        let st = each_among same (live_items s) (live_items t) in
        let ts = each_among same (live_items t) (live_items s) in
        let tu = each_among same (live_items t) (live_items u) in
        let ut = each_among same (live_items u) (live_items t) in
        both_true (each_among same (live_items s) (live_items u)) (each_among same (live_items u) (live_items s))
        (each_among-trans laws.trans (live_items s) (live_items t) (live_items u) (first_so st ts one)
        (first_so tu ut other))
        (each_among-trans laws.trans (live_items u) (live_items t) (live_items s) (second_so tu ut other)
        (second_so st ts one));
  }

  reflexive-same_items : ((x : T) → same x x ≡ true) → (s : Store T) → has_same_items same s s ≡ true
  reflexive-same_items reflexive s =
      both_true (each_among same (live_items s) (live_items s)) (each_among same (live_items s) (live_items s))
      (each_among-back reflexive [] (live_items s)) (each_among-back reflexive [] (live_items s))

-- `alike` is equality of keys, and `equal` that of items
module _ {T : Type 0} (alike equal : T → T → Bool) where
  pub same_laws : IsEquivalence alike → IsPartialEquivalence equal → IsPartialEquivalence (eq_of_both alike equal)
  same_laws a b = record {
    symm = λ x y i. a.symm x y i && b.symm x y i;
    trans = λ x y z p q.
        both_true (alike x z) (equal x z)
        ((partial_equiv_from_equiv a).trans x y z (first_so (alike x y) (equal x y) p)
        (first_so (alike y z) (equal y z) q))
        (b.trans x y z (second_so (alike x y) (equal x y) p) (second_so (alike y z) (equal y z) q));
  }

  -- the laws of `==` of maps
  pub map_laws :
      IsEquivalence alike
      → IsPartialEquivalence equal
      → IsPartialEquivalence (λ (m n : MapState T). has_same_items (eq_of_both alike equal) m.store n.store)
  map_laws a b =
      let laws = IsPartialEquivalence-same_items (eq_of_both alike equal) (same_laws a b) in
      record { symm = λ m n. laws.symm m.store n.store; trans = λ l m n. laws.trans l.store m.store n.store }

  -- if the equality of items is reflexive
  pub map_equivalence :
      IsEquivalence alike
      → IsEquivalence equal
      → IsEquivalence (λ (m n : MapState T). has_same_items (eq_of_both alike equal) m.store n.store)
  map_equivalence a b =
      let reflexive : (x : T) → eq_of_both alike equal x x ≡ true = λ x.
      both_true (alike x x) (equal x x) (a.refl x) (b.refl x) in
      equiv (map_laws a (partial_equiv_from_equiv b))
      (λ m. reflexive-same_items (eq_of_both alike equal) reflexive m.store)
