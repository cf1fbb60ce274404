use Rattle.std.proofs.Common.{arith, refl, sym, ap, subst, ◌∙◌, ◌≡◌, ◌≢◌, ◌-◌, ℕ, zero, suc, None, Some, Option, IfNone, IfSome, MatchOption, All, List, [], ◌∷◌, length, drop, get_or}
use Rattle.std.proofs.lemmas.List.{length-drop, get_or_default}
use Rattle.std.specs.Ordering.{ordering_then}
use Rattle.std.specs.declared.cmp.Ordering.{Ordering}
use Rattle.std.specs.declared.cmp.Ordering.TheVariants.{Less, Equal, Greater}
use Rattle.iddqd_order.specs.MapBTreeTable.{order_of}
use Rattle.iddqd_order.specs.Search.{IsPlace}
use Rattle.table_uses.proofs.ordered.first_after.Goals as goal

less_of : (o : Ordering) → ordering_then o Greater ≡ Less → o ≡ Less
less_of Less is = refl
less_of Equal is = cc
less_of Greater is = cc

-- what stands first behind the place
first_less :
    (a : ℕ → Ordering) (xs : List ℕ) (place x : ℕ) (rest : List ℕ)
    → IsPlace (λ ix. ordering_then (a ix) Greater) xs place
    → drop place xs ≡ x ∷ rest
    → a x ≡ Less
first_less a [] zero x rest p is = absurd (let never = is in cc)
first_less a [] (suc i) x rest p is = absurd (let never = is in cc)
first_less a (y ∷ ys) zero x rest p is =
    let here : ordering_then (a y) Greater ≡ Less = p.less_from 0 (omega arith) (omega arith) in
    let same : y ≡ x = cc in
    subst (λ z. a z ≡ Less) same (less_of (a y) here)
first_less a (y ∷ ys) (suc i) x rest p is =
    first_less a ys i x rest (record {
      within = (let w = p.within in omega arith);
      greater_before = λ k lt. p.greater_before (suc k) (omega arith);
      less_from = λ k le lt. p.less_from (suc k) (omega arith) (omega arith);
    }) is

-- before the place none is
none_less :
    (a : ℕ → Ordering) (xs : List ℕ) (place : ℕ)
    → IsPlace (λ ix. ordering_then (a ix) Greater) xs place
    → drop place xs ≡ []
    → All (λ ix. a ix ≢ Less) xs
none_less a xs place p over k d lt less =
    let left : length xs - place ≡ 0 = sym (length-drop place xs) ∙ ap length over in
    let before : ordering_then (a (get_or xs k 0)) Greater ≡ Greater = p.greater_before k (omega (arith, left, lt)) in
    let here : a (get_or xs k 0) ≡ Less = subst (λ z. a z ≡ Less) (get_or_default xs k d 0 lt) less in
    let never : Less ≡ Greater = subst (λ z. ordering_then z Greater ≡ Greater) here before in
    cc

found_less :
    (a : ℕ → Ordering) (xs : List ℕ) (place : ℕ) (r : Option ℕ) (old new : List ℕ)
    → IsPlace (λ ix. ordering_then (a ix) Greater) xs place
    → old ≡ drop place xs
    → MatchOption r ((old ≡ []) × (new ≡ [])) (λ x. old ≡ x ∷ new)
    → IfSome r (λ ix. a ix ≡ Less)
found_less a xs place None old new p is gives = tt
found_less a xs place (Some x) old new p is gives = first_less a xs place x new p (sym is ∙ gives)

none_found :
    (a : ℕ → Ordering) (xs : List ℕ) (place : ℕ) (r : Option ℕ) (old new : List ℕ)
    → IsPlace (λ ix. ordering_then (a ix) Greater) xs place
    → old ≡ drop place xs
    → MatchOption r ((old ≡ []) × (new ≡ [])) (λ x. old ≡ x ∷ new)
    → IfNone r (All (λ ix. a ix ≢ Less) xs)
none_found a xs place None old new p is gives = none_less a xs place p (sym is ∙ gives.0)
none_found a xs place (Some x) old new p is gives = tt

pub returns-clause-found : goal.returns-clause-found
returns-clause-found g c answer rises = found_less answer (order_of c.args.table.now) c.iter_after_by.ensures.place c.next.result _ _ (c.iter_after_by.ensures.bound answer rises) c.iter_after_by.ensures.ahead c.next.ensures.steps

pub returns-clause-none : goal.returns-clause-none
returns-clause-none g c answer rises = none_found answer (order_of c.args.table.now) c.iter_after_by.ensures.place c.next.result _ _ (c.iter_after_by.ensures.bound answer rises) c.iter_after_by.ensures.ahead c.next.ensures.steps
