use Rattle.iddqd_order.proofs.SpotLemmas.{LooksBehind}
use Rattle.iddqd_order.proofs.btree_table.node.Node.behind.Given as goal

abbrev pub invariant-loop-level : goal.invariant-loop-level
invariant-loop-level l = LooksBehind l.fn.height l.level l.fn.self l.node l.fn.path l.found

abbrev pub decreases-loop-level : goal.decreases-loop-level
decreases-loop-level l = l.level
