use Rattle.std.proofs.Common.{◌<◌}
use Rattle.std.specs.Ordering.{nat_cmp, is_gt}
use Rattle.uses.specs.declared.ledger.Order.{Order}
use Rattle.iddqd_maps.proofs.CallerLemmas.{Drops-left, is_earlier}
use Rattle.uses.proofs.ledger.close_before.Goals as goal

pub returns-clause-dropped : goal.returns-clause-dropped
returns-clause-dropped c =
    Drops-left c.args.ledger.now.store c.remove_range_by.new.self.store
    (λ (order : Order). is_gt (nat_cmp c.args.day order.day))
    (λ (order : Order). order.day < c.args.day)
    (λ (order : Order). is_earlier c.args.day order.day)
    c.remove_range_by.ensures.left
