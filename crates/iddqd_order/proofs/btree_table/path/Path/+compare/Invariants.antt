use Rattle.iddqd_order.proofs.btree_table.path.Path.+compare.Given as goal

-- proposed from what the function passes where it calls itself
abbrev pub decreases-compare : goal.decreases-compare
decreases-compare l = l.level
