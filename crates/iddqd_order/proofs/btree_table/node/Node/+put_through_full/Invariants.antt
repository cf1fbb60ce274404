use Rattle.iddqd_order.proofs.btree_table.node.Node.+put_through_full.Given as goal

abbrev pub decreases-put_through_full : goal.decreases-put_through_full
decreases-put_through_full l = l.height
