use Rattle.iddqd_order.proofs.btree_table.path.Path.+agrees.Given as goal

-- each call goes one level down
abbrev pub decreases-agrees : goal.decreases-agrees
decreases-agrees l = l.level
