use Rattle.std.proofs.Common.{◌≡◌, ◌↔◌, true, refl}
use Rattle.std.specs.Ordering.{is_eq, nat_cmp, ordering_reverse, ordering_then}
use Rattle.std.specs.declared.cmp.Ordering.{Ordering}
use Rattle.std.specs.declared.cmp.Ordering.TheVariants.{Less, Equal, Greater}
use Rattle.uses.specs.declared.purchases.Purchase.{Purchase}
use Rattle.iddqd_maps.proofs.CallerLemmas.{Drops-left, is_tied}
use Rattle.uses.proofs.purchases.undo.Goals as goal

-- both answers are Equal, whichever way round the second is
both_equal :
    (r s : Ordering)
    → (is_eq (ordering_then r (ordering_reverse s)) ≡ true) ↔ ((is_eq r ≡ true) × (is_eq s ≡ true))
both_equal Less s = (λ is. cc, λ (one, other). cc)
both_equal Equal Less = (λ is. cc, λ (one, other). cc)
both_equal Equal Equal = (λ is. (refl, refl), λ both. refl)
both_equal Equal Greater = (λ is. cc, λ (one, other). cc)
both_equal Greater s = (λ is. cc, λ (one, other). cc)

pub returns-clause-dropped : goal.returns-clause-dropped
returns-clause-dropped c =
    Drops-left c.args.purchases.now.store c.remove_in.new.self.store
    (λ (purchase : Purchase). is_eq (ordering_then (nat_cmp c.args.customer purchase.customer) (ordering_reverse (nat_cmp c.args.day purchase.day))))
    (λ (purchase : Purchase). (purchase.customer ≡ c.args.customer) × (purchase.day ≡ c.args.day))
    (λ (purchase : Purchase).
    let both = both_equal (nat_cmp c.args.customer purchase.customer) (nat_cmp c.args.day purchase.day) in (
      λ is. let (one, other) = both.0 is in
          ((is_tied c.args.customer purchase.customer).0 one, (is_tied c.args.day purchase.day).0 other),
      λ (one, other). both.1 ((is_tied c.args.customer purchase.customer).1 one, (is_tied c.args.day purchase.day).1 other),
    ))
    (rw c.equal.ensures at c.remove_in.ensures.left)
