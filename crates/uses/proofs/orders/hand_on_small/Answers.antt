use Rattle.std.proofs.Common.{rules, ◌≡◌, ◌<◌, ℕ, nat_le, refl}
use Rattle.std.specs.Ordering.{nat_cmp, is_eq}
use Rattle.iddqd_maps.proofs.CallerLemmas.{Drops-retained, GivesRejected-tested, RetainsSelected-gone, RetainsSelected-stays, is_less, is_tied}
use Rattle.uses.proofs.IntakeLemmas.{rejected_one}
use Rattle.uses.specs.declared.ledger.Order.{Order}
use Rattle.uses.proofs.orders.hand_on_small.Goals as goal

pub retain_into_in-requires-clause-given : goal.retain_into_in-requires-clause-given
retain_into_in-requires-clause-given g c = λ may. may c.requires

pub returns-clause-dropped : goal.returns-clause-dropped
returns-clause-dropped g c =
    let least : ℕ × Order → _ = λ p. nat_le c.args.least p.1.amount in
    let (last, retains) = rw c.equal.ensures at c.retain_into_in.ensures.asked in
    Drops-retained c.args.queue.now.store c.retain_into_in.new.self.store
    (λ (order : Order). order.day)
    (λ (day : ℕ). is_eq (nat_cmp c.args.day day))
    (λ (order : Order). nat_le c.args.least order.amount)
    (λ (order : Order). order.day ≡ c.args.day)
    (λ (order : Order). order.amount < c.args.least)
    (λ (order : Order). is_tied c.args.day order.day)
    (λ (order : Order). is_less c.args.least order.amount)
    (RetainsSelected-stays _ (λ s. s.0.now ≡ c.args.least) least (λ s p b t i asked. search rules) _ _ _ _ _ refl retains)
    (λ ix item live inside. RetainsSelected-gone _ (λ s. s.0.now ≡ c.args.least) least (λ s p b t i asked. search rules)
    _ _ _ _ _ refl retains ix item live ((retains.listed.each ix).1 (item, live, inside)))
    (rw c.equal.ensures at c.retain_into_in.ensures.others)

pub returns-clause-handed : goal.returns-clause-handed
returns-clause-handed g c =
    let s = c.args.queue.now.store in
    let least : ℕ × Order → _ = λ p. nat_le c.args.least p.1.amount in
    let gives = rw c.equal.ensures at c.retain_into_in.ensures.given in
    let (pairs, last, given, each) =
    GivesRejected-tested _ (λ s. s.0.now ≡ c.args.least) least (λ s p b t i asked. search rules) _ _ _ _ _ _ refl gives in (
      pairs,
      last,
      given,
      λ ix order here.
          rejected_one s (λ (o : Order). is_eq (nat_cmp c.args.day o.day)) least
          (λ (o : Order). (o.day ≡ c.args.day) × (o.amount < c.args.least)) gives.indexes gives.listed.each
          (λ ix o theirs small. ((is_tied c.args.day o.day).0 theirs, (is_less c.args.least o.amount).0 small))
          ix order (each ix order here),
    )
