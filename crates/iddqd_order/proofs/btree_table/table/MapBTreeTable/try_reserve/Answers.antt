use Rattle.std.proofs.Common.{arith}
use Rattle.iddqd_order.proofs.TableLemmas.{few}
use Rattle.iddqd_order.proofs.btree_table.table.MapBTreeTable.try_reserve.Goals as goal

pub overflow_sub-self-inside : goal.overflow_sub-self-inside
overflow_sub-self-inside c = let most = few _ _ _ c.self.invariant in omega arith
