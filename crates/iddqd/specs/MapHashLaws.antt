-- What a total order gives a query that is a key itself.
use Rattle.std.specs.Prelude.{◌≡◌, ◌↔◌, Bool, true, false, IsTrue}
use Rattle.std.proofs.Common.{◌∙◌, ap, refl}
use Rattle.std.specs.Cmp.{IsTotalOrder}
use Rattle.std.specs.Ordering.{ordering_reverse, is_eq}
use Rattle.std.specs.declared.cmp.Ordering.{Ordering}
use Rattle.std.specs.declared.cmp.Ordering.TheVariants.{Less, Equal, Greater}

-- what comes after a key comes after each key before it
pub greater_before_in : {K : Type 0} {R : K → K → Ordering} → IsTotalOrder R →
    (q a b : K) → R a b ≡ Less → R q b ≡ Greater → R q a ≡ Greater
greater_before_in {R = R} o q a b before greater =
    let after : R b q ≡ Less = o.antisymm b q ∙ ap ordering_reverse greater in
    o.antisymm q a ∙ ap ordering_reverse (o.trans a b q before after)

-- a test that agrees with an order is true if and only if the order is Equal
pub equal_in : (test : Bool) (order : Ordering) → test ≡ is_eq order → IsTrue test ↔ (order ≡ Equal)
equal_in true Equal e = (λ _. refl, λ _. refl)
equal_in true Less e = cc
equal_in true Greater e = cc
equal_in false Equal e = cc
equal_in false Less e = (λ h. cc, λ h. cc)
equal_in false Greater e = (λ h. cc, λ h. cc)
