use Rattle.iddqd_order.proofs.btree_table.node.Node.+remove.Given as goal

abbrev pub decreases-remove : goal.decreases-remove
decreases-remove g l = l.height
