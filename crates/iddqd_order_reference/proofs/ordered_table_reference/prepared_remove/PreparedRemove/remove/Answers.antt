use Rattle.std.proofs.Common.{ap}
use Rattle.iddqd_order_reference.specs.OrderedTable.{order_of}
use Rattle.iddqd_order.proofs.KeyOrderLemmas.{StaysInKeyOrder-found}
use Rattle.iddqd_order_reference.proofs.ordered_table_reference.prepared_remove.PreparedRemove.remove.Goals as goal

pub returns-clause-in_order : goal.returns-clause-in_order
returns-clause-in_order c =
    let left = c.remove_found.ensures in
    StaysInKeyOrder-found c.remove_found.result (order_of c.args.self.table.now) _ c.args.self.ix left.removed (λ missed. ap order_of (left.kept missed))
