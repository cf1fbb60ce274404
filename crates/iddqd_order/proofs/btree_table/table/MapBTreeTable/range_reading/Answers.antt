use Rattle.iddqd_order.proofs.Names.{◌∙◌, arith, None, Askable, order_of}
use Rattle.iddqd_order.proofs.AskLemmas.{asks_more, asks_then, CanAsk-later}
use Rattle.iddqd_order.proofs.RangeLemmas.{ends-before}
use Rattle.iddqd_order.proofs.TreeLemmas.{place_in-within}
use Rattle.iddqd_order.proofs.btree_table.table.MapBTreeTable.range_reading.Goals as goal

pub find_upper-back-requires-clause-can_search : goal.find_upper-back-requires-clause-can_search
find_upper-back-requires-clause-can_search g c =
    CanAsk-later g.F.FnMut (Askable (order_of c.args.self.now) None) c.find_lower-front.ensures.asked.after c.requires

pub returns : goal.returns
unfolding order_of
returns g c =
    let low = c.find_lower-front.ensures in let high = c.find_upper-back.ensures in
    let t = c.tree-height.ensures in
    record {
      asked =
          asks_more g.F.FnMut (Askable (order_of c.args.self.now) None) (omega arith)
          (asks_then g.F.FnMut (Askable (order_of c.args.self.now) None) low.asked high.asked);
      from = _;
      to = high.ends.to;
      ahead = record {
        from_within = place_in-within _ _ _ t.tree low.stands.at.gap.goes;
        to_within = high.ends.to_within;
        ahead = (rw (t.root, t.height) at c.new.ensures) ∙ high.ends.same;
      };
      begins = low.begins;
      ends = ends-before g.F.FnMut _ _ _ low.asked high.ends.end;
    }

pub find_upper-back-requires-clause-stands : goal.find_upper-back-requires-clause-stands
find_upper-back-requires-clause-stands g c = c.find_lower-front.ensures.stands

pub new-requires-clause-tree : goal.new-requires-clause-tree
new-requires-clause-tree g c = let t = c.tree-height.ensures in rw (t.root, t.height) t.tree

pub new-requires-clause-front : goal.new-requires-clause-front
new-requires-clause-front g c = let t = c.tree-height.ensures in rw (t.root, t.height) c.find_lower-front.ensures.stands

pub new-requires-clause-back : goal.new-requires-clause-back
new-requires-clause-back g c = let t = c.tree-height.ensures in rw (t.root, t.height) c.find_upper-back.ensures.stands

pub new-requires-clause-ahead : goal.new-requires-clause-ahead
new-requires-clause-ahead g c = let t = c.tree-height.ensures in rw (t.root, t.height) c.find_upper-back.ensures.ends.ahead
