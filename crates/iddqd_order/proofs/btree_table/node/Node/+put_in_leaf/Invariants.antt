use Rattle.iddqd_order.proofs.btree_table.node.Node.+put_in_leaf.Given as goal

abbrev pub decreases-put_in_leaf : goal.decreases-put_in_leaf
decreases-put_in_leaf l = l.height
