use Rattle.iddqd_order.proofs.btree_table.node.Node.+remove_last.Given as goal

abbrev pub decreases-remove_last : goal.decreases-remove_last
decreases-remove_last l = l.height
