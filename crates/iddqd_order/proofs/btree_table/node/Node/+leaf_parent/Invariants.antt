use Rattle.iddqd_order.proofs.btree_table.node.Node.+leaf_parent.Given as goal

abbrev pub decreases-leaf_parent : goal.decreases-leaf_parent
decreases-leaf_parent l = l.level
