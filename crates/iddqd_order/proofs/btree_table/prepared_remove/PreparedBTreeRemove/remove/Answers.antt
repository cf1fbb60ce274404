use Rattle.iddqd_order.proofs.Names.{ap, order_of}
use Rattle.iddqd_order.proofs.GapLemmas.{NeedsNoMoreBlocks-lower, no_longer-found}
use Rattle.iddqd_order.proofs.KeyOrderLemmas.{StaysInKeyOrder-found}
use Rattle.iddqd_order.proofs.btree_table.prepared_remove.PreparedBTreeRemove.remove.Goals as goal

pub returns-clause-in_order : goal.returns-clause-in_order
returns-clause-in_order c =
    let left = c.remove_found.ensures in
    StaysInKeyOrder-found c.remove_found.result (order_of c.args.self.table.now) _ c.args.self.ix left.removed (λ missed. ap order_of (left.kept missed))

pub returns-clause-no_more_blocks : goal.returns-clause-no_more_blocks
returns-clause-no_more_blocks c =
    let left = c.remove_found.ensures in
    NeedsNoMoreBlocks-lower c.args.self.table.now _
    (no_longer-found c.remove_found.result c.args.self.table.now _ c.args.self.ix left.removed left.kept)
    left.no_higher left.reserved
