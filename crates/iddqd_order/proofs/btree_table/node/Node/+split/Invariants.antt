use Rattle.iddqd_order.proofs.btree_table.node.Node.+split.Given as goal

abbrev pub decreases-split : goal.decreases-split
decreases-split l = l.height
