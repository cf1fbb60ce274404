use Rattle.std.proofs.Common.{rules, ◌≡◌, nat_le, refl}
use Rattle.iddqd_maps.proofs.CallerLemmas.{RetainsTo-tested}
use Rattle.uses.specs.declared.ledger.Order.{Order}
use Rattle.uses.proofs.orders.write_off.Goals as goal

pub returns-clause-stay : goal.returns-clause-stay
returns-clause-stay c =
    let retains = c.retain_into.ensures.retained in
    RetainsTo-tested _ (λ s. s.0.now ≡ c.args.day) (λ (order : Order). nat_le c.args.day order.day) (λ s x b t i asked. search rules) _ _ _ _ refl retains.retained

pub returns-clause-memory : goal.returns-clause-memory
returns-clause-memory c = c.retain_into.ensures.retained.memory
