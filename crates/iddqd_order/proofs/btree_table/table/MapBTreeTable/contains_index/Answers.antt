use Rattle.std.proofs.Common.{arith}
use Rattle.std.proofs.lemmas.Grind.{common_steps}
use Rattle.iddqd_order.proofs.btree_table.table.MapBTreeTable.contains_index.Goals as goal

pub returns : goal.returns
returns c = grind (arith, common_steps)
