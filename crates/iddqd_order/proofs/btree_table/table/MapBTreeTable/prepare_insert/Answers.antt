use Rattle.std.proofs.Common.{arith}
use Rattle.std.proofs.lemmas.Grind.{common_steps}
use Rattle.iddqd_order.proofs.btree_table.table.MapBTreeTable.prepare_insert.Goals as goal

pub prepare-requires-clause-can_ask : goal.prepare-requires-clause-can_ask
prepare-requires-clause-can_ask g c = grind (arith, common_steps)

pub prepare-requires-clause-assigned : goal.prepare-requires-clause-assigned
prepare-requires-clause-assigned g c = grind (arith, common_steps)

pub prepare-requires-clause-absent : goal.prepare-requires-clause-absent
prepare-requires-clause-absent g c = grind (arith, common_steps)
