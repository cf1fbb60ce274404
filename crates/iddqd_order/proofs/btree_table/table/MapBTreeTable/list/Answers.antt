use Rattle.std.proofs.Common.{arith}
use Rattle.std.proofs.lemmas.Grind.{common_steps}
use Rattle.iddqd_order.proofs.btree_table.table.MapBTreeTable.list.Goals as goal

pub loop-ix-preserved : goal.loop-ix-preserved
loop-ix-preserved c = grind (arith, common_steps)

pub returns-clause-indexes : goal.returns-clause-indexes
returns-clause-indexes c = c.iter-walk.ensures.indexes

pub returns-in_err-push-clause-indexes : goal.returns-in_err-push-clause-indexes
returns-in_err-push-clause-indexes c = c.iter-walk.ensures.indexes
