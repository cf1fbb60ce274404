use Rattle.std.proofs.Common.{rules}
use Rattle.iddqd_order.proofs.Names.{arith, None, Askable, order_of}
use Rattle.iddqd_order.proofs.AskLemmas.{asks_more, asks_none}
use Rattle.iddqd_order.proofs.btree_table.table.MapBTreeTable.find_lower.Goals as goal

pub returns-in-Unbounded : goal.returns-in-Unbounded
returns-in-Unbounded g c = record {
  asked = asks_more g.F.FnMut _ (omega arith) (asks_none g.F.FnMut (Askable (order_of c.args.self.now) None) _);
  begins = search rules;
  stands = c.end_cursor.ensures.stands;
  tree = c.end_cursor.ensures.tree;
}

pub returns-in-Excluded : goal.returns-in-Excluded
returns-in-Excluded g c = record {
  asked = search rules;
  stands = search rules;
  begins = search rules;
  tree = search rules;
}

pub returns-in-Included : goal.returns-in-Included
returns-in-Included g c = record {
  asked = c.find_bound.ensures.asked;
  stands = c.find_bound.ensures.stands;
  tree = c.find_bound.ensures.tree;
  begins = search rules;
}
