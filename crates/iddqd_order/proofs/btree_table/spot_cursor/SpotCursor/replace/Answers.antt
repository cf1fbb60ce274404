use Rattle.std.proofs.Common.{rules}
use Rattle.std.proofs.Common.{arith}
use Rattle.std.proofs.lemmas.Grind.{common_steps}
use Rattle.iddqd_order.proofs.btree_table.spot_cursor.SpotCursor.replace.Goals as goal

pub returns : goal.returns
returns c = record {
  stands = grind (arith, common_steps);
  place = search rules;
  formed = search rules;
  same_length = search rules;
  items = search rules;
  inners = search rules;
  same_places = search rules;
}
