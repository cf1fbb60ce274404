use Rattle.iddqd_order.proofs.btree_table.node.Node.+step_over.Given as goal

abbrev pub decreases-step_over : goal.decreases-step_over
decreases-step_over l = l.level
