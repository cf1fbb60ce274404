use Rattle.iddqd_order.proofs.btree_table.node.Node.+edge.Given as goal

abbrev pub decreases-edge : goal.decreases-edge
decreases-edge l = l.level
