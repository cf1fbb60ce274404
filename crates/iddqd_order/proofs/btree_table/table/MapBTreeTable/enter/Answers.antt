use Rattle.iddqd_order.proofs.SteppingLemmas.{enter-asks, enter-node, enter-low, enter-high, tree-levels}
use Rattle.iddqd_order.proofs.Names.{arith}
use Rattle.iddqd_order.specs.MapBTreeTable.{order_of}
use Rattle.iddqd_order.proofs.btree_table.table.MapBTreeTable.enter.Goals as goal

pub returns-clause-node : goal.returns-clause-node
returns-clause-node c = enter-node c.args.self.now c.leftmost.result c.tree-height.result.1 c.tree-height.ensures.height c.tree-height.ensures.tree

pub returns-clause-low : goal.returns-clause-low
returns-clause-low c = enter-low c.args.self.now c.leftmost.result c.tree-height.result.1 c.tree-height.ensures.height

pub returns-clause-high : goal.returns-clause-high
unfolding order_of
returns-clause-high c = enter-high c.args.self.now c.leftmost.result c.tree-height.result.1 c.tree-height.ensures.height

pub returns-clause-levels : goal.returns-clause-levels
returns-clause-levels c =
    let high = c.tree-height.ensures.height in
    let few = tree-levels c.args.self.now.root c.args.self.now.height c.tree-height.ensures.tree in
    omega arith

pub returns-clause-asks : goal.returns-clause-asks
unfolding order_of
returns-clause-asks c = enter-asks c.args.self.now c.tree-height.result.1 c.tree-height.ensures.height c.tree-height.ensures.tree
