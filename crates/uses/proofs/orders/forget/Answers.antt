use Rattle.std.proofs.Common.{◌≡◌, ◌==◌}
use Rattle.uses.specs.declared.ledger.Order.{Order}
use Rattle.iddqd_maps.proofs.CallerLemmas.{Drops-left, is_same}
use Rattle.uses.proofs.orders.forget.Goals as goal

pub returns-clause-dropped : goal.returns-clause-dropped
returns-clause-dropped c =
    Drops-left c.args.accounts.now.store c.remove_in.new.self.store
    (λ (order : Order). c.args.customer == order.customer)
    (λ (order : Order). order.customer ≡ c.args.customer)
    (λ (order : Order). is_same c.args.customer order.customer)
    (rw c.having.ensures at c.remove_in.ensures.left)
