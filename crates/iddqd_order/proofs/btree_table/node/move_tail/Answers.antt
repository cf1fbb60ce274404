use Rattle.std.proofs.Common.{arith}
use Rattle.std.proofs.lemmas.Grind.{common_steps}
use Rattle.iddqd_order.proofs.btree_table.node.move_tail.Goals as goal

pub returns-clause-tail : goal.returns-clause-tail
returns-clause-tail c = grind (arith, common_steps)

pub loop-to-preserved : goal.loop-to-preserved
loop-to-preserved c = grind (arith, common_steps)

pub returns-clause-head : goal.returns-clause-head
returns-clause-head c = grind (arith, common_steps)
