use Rattle.iddqd_order.proofs.IndexListLemmas.{IsIndexList-nil}
use Rattle.iddqd_order_reference.proofs.ordered_table_reference.OrderedTable.new.Goals as goal

pub invariant_of-result : goal.invariant_of-result
invariant_of-result c = rw c.new.ensures.items IsIndexList-nil
