use Rattle.std.proofs.Common.{subst}
use Rattle.iddqd_maps.specs.InOrder.{ListsInOrder}
use Rattle.iddqd_maps.specs.Range.{indexes_ahead}
use Rattle.uses.specs.Ledger.{by_day, is_due_on}
use Rattle.uses.proofs.orders.indexes_of_day.Goals as goal

pub returns : goal.returns
returns c =
    subst (λ s. ListsInOrder by_day (is_due_on c.args.day.now) s (indexes_ahead c.group.result))
    c.parts.ensures c.group.ensures
