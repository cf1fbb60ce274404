use Rattle.iddqd_order.specs.MapBTreeTable.{order_of}
use Rattle.iddqd_order.proofs.CursorLemmas.{first-is}
use Rattle.iddqd_order.proofs.btree_table.table.MapBTreeTable.first.Goals as goal

pub returns : goal.returns
unfolding order_of
returns c = rw (← c.self.view_is) (first-is _ _ _ c.next.result c.at_end.ensures.gap c.next.ensures.next)
