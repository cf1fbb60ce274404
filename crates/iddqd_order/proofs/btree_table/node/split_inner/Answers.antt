use Rattle.std.proofs.Common.{arith, rules}
use Rattle.iddqd_order.proofs.btree_table.node.split_inner.Goals as goal

pub returns : goal.returns
returns c = record {
  other_room = search rules;
  has_room = search rules;
  one_more = omega arith;
  split = search rules;
  parts = search rules;
}
