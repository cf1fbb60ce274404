use Rattle.iddqd_order.proofs.btree_table.node.Node.+front.Given as goal

abbrev pub decreases-front : goal.decreases-front
decreases-front l = l.level
