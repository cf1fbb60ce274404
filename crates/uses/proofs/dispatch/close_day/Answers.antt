use Rattle.std.proofs.Common.{◌≡◌, ℕ}
use Rattle.std.specs.Ordering.{nat_cmp, is_eq}
use Rattle.iddqd_maps.proofs.CallerLemmas.{Drops-left, is_tied}
use Rattle.uses.specs.declared.ledger.Order.{Order}
use Rattle.uses.proofs.dispatch.close_day.Goals as goal

pub returns-clause-dropped : goal.returns-clause-dropped
returns-clause-dropped c =
    Drops-left c.args.dispatch.now.store c.remove_in.new.self.store
    (λ (order : Order). is_eq (nat_cmp c.args.day order.day))
    (λ (order : Order). order.day ≡ c.args.day)
    (λ (order : Order). is_tied c.args.day order.day)
    (rw c.equal.ensures at c.remove_in.ensures.left)
