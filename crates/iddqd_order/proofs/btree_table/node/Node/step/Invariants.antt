use Rattle.iddqd_order.proofs.SpotCursorLemmas.{StepsOn}
use Rattle.iddqd_order.proofs.btree_table.node.Node.step.Given as goal

abbrev pub invariant-loop-at : goal.invariant-loop-at
invariant-loop-at l = StepsOn l.fn.height l.at l.fn.level l.fn.self l.node l.path l.next

abbrev pub decreases-loop-at : goal.decreases-loop-at
decreases-loop-at l = l.at
