use Rattle.iddqd_order.proofs.Names.{order_of}
use Rattle.iddqd_order.proofs.GapLemmas.{NeedsNoMoreBlocks-lower, without-no_longer}
use Rattle.iddqd_order.proofs.btree_table.table.MapBTreeTable.remove_exact.Goals as goal

pub returns-clause-no_more_blocks : goal.returns-clause-no_more_blocks
returns-clause-no_more_blocks c =
    let left = c.remove_by_walk.ensures in
    NeedsNoMoreBlocks-lower c.args.self.now _ (rw left.removed (without-no_longer (order_of c.args.self.now) c.args.ix)) left.no_higher left.reserved
