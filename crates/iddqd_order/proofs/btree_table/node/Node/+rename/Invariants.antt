use Rattle.iddqd_order.proofs.Names.{◌-◌, remapped}
use Rattle.iddqd_order.proofs.NodeRenameLemmas.{AreRenamed}
use Rattle.iddqd_order.proofs.btree_table.node.Node.+rename.Given as goal

abbrev pub decreases-rename : goal.decreases-rename
decreases-rename l = l.height

abbrev pub invariant-loop-i : goal.invariant-loop-i
invariant-loop-i l = AreRenamed (remapped l.remap) (l.height - 1) l.i l.fn.self l.self
