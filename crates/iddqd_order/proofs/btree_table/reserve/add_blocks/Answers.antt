use Rattle.std.proofs.Common.{arith, rules}
use Rattle.iddqd_order.proofs.btree_table.reserve.add_blocks.Goals as goal

pub returns-in-Err : goal.returns-in-Err
returns-in-Err c = record {
  empty = search rules;
  refused = omega arith;
  added = search rules;
  capacity = omega arith;
}
