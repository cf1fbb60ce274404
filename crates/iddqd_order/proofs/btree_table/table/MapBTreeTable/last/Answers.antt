use Rattle.iddqd_order.specs.MapBTreeTable.{order_of}
use Rattle.iddqd_order.proofs.CursorLemmas.{last-is}
use Rattle.iddqd_order.proofs.btree_table.table.MapBTreeTable.last.Goals as goal

pub returns : goal.returns
unfolding order_of
returns c = rw (← c.self.view_is) (last-is _ _ _ c.next_back.result c.at_end.ensures.gap c.next_back.ensures.next)
