use Rattle.std.proofs.Common.{rules, ◌≡◌, ◌≤◌, ◌<◌, ℕ, nat_le, not, refl}
use Rattle.std.specs.Ordering.{nat_cmp, is_lt}
use Rattle.iddqd_maps.proofs.CallerLemmas.{Drops-retained, GivesRefusedWithin-tested, RetainsWithin-gone, RetainsWithin-stays, is_less, is_no_later}
use Rattle.uses.specs.declared.ledger.Order.{Order}
use Rattle.uses.proofs.orders.hand_on_small_until.Goals as goal

pub retain_range_into_by-requires-clause-given : goal.retain_range_into_by-requires-clause-given
retain_range_into_by-requires-clause-given g c = λ may. may c.requires

pub returns-clause-dropped : goal.returns-clause-dropped
returns-clause-dropped g c =
    let (last, retains) = c.retain_range_into_by.ensures.asked in
    Drops-retained c.args.queue.now.store c.retain_range_into_by.new.self.store
    (λ (order : Order). order.day)
    (λ (day : ℕ). not (is_lt (nat_cmp c.args.day day)))
    (λ (order : Order). nat_le c.args.least order.amount)
    (λ (order : Order). order.day ≤ c.args.day)
    (λ (order : Order). order.amount < c.args.least)
    (λ (order : Order). is_no_later c.args.day order.day)
    (λ (order : Order). is_less c.args.least order.amount)
    (RetainsWithin-stays _ (λ s. s.0.now ≡ c.args.least) _ (λ s x b t i asked. search rules) _ _ _ _ _ _ refl retains)
    (RetainsWithin-gone _ (λ s. s.0.now ≡ c.args.least) _ (λ s x b t i asked. search rules) _ _ _ _ _ _ refl retains)
    c.retain_range_into_by.ensures.others

pub returns-clause-handed : goal.returns-clause-handed
returns-clause-handed g c =
    let least : Order → _ = λ order. nat_le c.args.least order.amount in
    let (items, last, given, each) =
    GivesRefusedWithin-tested _ (λ s. s.0.now ≡ c.args.least) least (λ s x b t i asked. search rules) _ _ _ _ _ _ _ refl
    c.retain_range_into_by.ensures.given in (
      items,
      last,
      given,
      λ order here.
          let (due, small) = each order here in
          ((is_no_later c.args.day order.day).0 due, (is_less c.args.least order.amount).0 small),
    )
