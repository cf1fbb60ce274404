use Rattle.std.proofs.Common.{rules}
use Rattle.iddqd_order.proofs.btree_table.reserve.Reserve.raise.Goals as goal

pub returns : goal.returns
returns c = record {
  refused = search rules;
  raised = search rules;
  inners = search rules;
}
