use Rattle.iddqd_order.proofs.btree_table.node.Node.+replace.Given as goal

abbrev pub decreases-replace : goal.decreases-replace
decreases-replace l = l.height
