use Rattle.std.proofs.Common.{rules}
use Rattle.iddqd_order.proofs.btree_table.reserve.Reserve.take.Goals as goal

pub returns-then-is_empty : goal.returns-then-is_empty
returns-then-is_empty c = record {
  left = search rules;
  reserved = search rules;
  block = search rules;
  one_more = search rules;
}
