use Rattle.iddqd_order.proofs.IndexListLemmas.{IsIndexList-nil}
use Rattle.iddqd_order_reference.proofs.ordered_table_reference.OrderedTable.clear.Goals as goal

pub invariant_of-self : goal.invariant_of-self
invariant_of-self c = rw c.clear.ensures.items IsIndexList-nil
