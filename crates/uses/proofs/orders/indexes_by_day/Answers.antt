use Rattle.std.proofs.Common.{true, subst}
use Rattle.iddqd_maps.specs.InOrder.{ListsInOrder}
use Rattle.iddqd_maps.specs.Iter.{indexes_left}
use Rattle.uses.specs.Ledger.{by_day}
use Rattle.uses.proofs.orders.indexes_by_day.Goals as goal

pub returns : goal.returns
returns c = subst (λ s. ListsInOrder by_day (λ _. true) s (indexes_left c.iter.result)) c.parts.ensures c.iter.ensures
