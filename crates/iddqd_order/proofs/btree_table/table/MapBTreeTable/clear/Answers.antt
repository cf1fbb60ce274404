use Rattle.iddqd_order.proofs.TableLemmas.{IsTable-none}
use Rattle.iddqd_order.proofs.btree_table.table.MapBTreeTable.clear.Goals as goal

pub invariant_of-self : goal.invariant_of-self
invariant_of-self c = rw (c.clear_in.ensures.emptied, c.clear_in.ensures.inners) IsTable-none
