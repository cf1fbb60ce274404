use Rattle.std.proofs.Common.{arith}
use Rattle.std.proofs.lemmas.Grind.{common_steps}
use Rattle.iddqd_order.proofs.btree_table.descent.position.Goals as goal

pub returns-clause-there : goal.returns-clause-there
returns-clause-there c = grind (arith, common_steps)

pub returns-clause-missing : goal.returns-clause-missing
returns-clause-missing c = grind (arith, common_steps)
