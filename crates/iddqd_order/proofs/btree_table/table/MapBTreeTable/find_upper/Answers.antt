use Rattle.std.proofs.Common.{rules}
use Rattle.iddqd_order.proofs.Names.{arith, None, Askable, order_of}
use Rattle.iddqd_order.proofs.AskLemmas.{asks_more, asks_none}
use Rattle.iddqd_order.proofs.RangeLemmas.{ends-last}
use Rattle.iddqd_order.proofs.TreeLemmas.{place_in-within}
use Rattle.iddqd_order.proofs.btree_table.table.MapBTreeTable.find_upper.Goals as goal

pub returns-in-Unbounded : goal.returns-in-Unbounded
unfolding order_of
returns-in-Unbounded g c = record {
  asked = asks_more g.F.FnMut _ (omega arith) (asks_none g.F.FnMut (Askable (order_of c.args.self.now) None) _);
  ends = (
      rw c.in-Unbounded.is
      (ends-last _ _ _ (place_in-within _ _ _ c.end_cursor.ensures.tree c.requires.stands.at.gap.goes) c.end_cursor.ensures.gap));
  stands = c.end_cursor.ensures.stands;
}

pub returns-in-Excluded : goal.returns-in-Excluded
returns-in-Excluded g c = record {
  asked = search rules;
  ends = search rules;
  stands = search rules;
}

pub returns-in-Included : goal.returns-in-Included
returns-in-Included g c = record {
  asked = c.find_end.ensures.asked;
  ends = search rules;
  stands = c.find_end.ensures.stands;
}
