use Rattle.iddqd_order.proofs.btree_table.node.Node.+index_on.Given as goal

abbrev pub decreases-index_on : goal.decreases-index_on
decreases-index_on l = l.height
