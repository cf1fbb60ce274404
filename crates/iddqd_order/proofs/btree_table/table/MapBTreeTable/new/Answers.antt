use Rattle.iddqd_order.proofs.TableLemmas.{IsTable-none}
use Rattle.iddqd_order.proofs.btree_table.table.MapBTreeTable.new.Goals as goal

pub invariant_of-result : goal.invariant_of-result
invariant_of-result c = rw c.new.ensures IsTable-none
