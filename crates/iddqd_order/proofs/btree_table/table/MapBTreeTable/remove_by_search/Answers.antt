use Rattle.std.proofs.Common.{arith, rules}
use Rattle.iddqd_order.proofs.btree_table.table.MapBTreeTable.remove_by_search.Goals as goal

pub returns-else-not-remove_found : goal.returns-else-not-remove_found
returns-else-not-remove_found g c = record {
  reserved = search rules;
  removed = search rules;
  indexes = search rules;
  no_higher = c.remove_found.ensures.no_higher;
  asked = c.find_spot-spot.ensures.asked;
}

pub returns-then-not-remove_found : goal.returns-then-not-remove_found
returns-then-not-remove_found g c = record {
  asked = c.find_spot-spot.ensures.asked;
  no_higher = omega arith;
  indexes = search rules;
  reserved = omega arith;
  removed = search rules;
}
