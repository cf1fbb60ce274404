use Rattle.iddqd_order.proofs.Names.{◌∙◌, order_of}
use Rattle.iddqd_order.proofs.TreeLemmas.{place_in-within}
use Rattle.iddqd_order.proofs.btree_table.table.MapBTreeTable.range_by.Goals as goal

pub returns : goal.returns
unfolding order_of
returns g c =
    let front = c.find_bound-front.ensures in let back = c.find_end-back.ensures in
    let t = c.tree-height.ensures in
    record {
      from_asked = front.asked;
      to_asked = back.asked;
      from = _;
      to = back.ends.to;
      ahead = record {
        from_within = place_in-within _ _ _ t.tree front.stands.at.gap.goes;
        to_within = back.ends.to_within;
        ahead = (rw (t.root, t.height) at c.new.ensures) ∙ back.ends.same;
      };
      begins = front.bound;
      ends = back.ends.end;
    }

pub find_end-back-requires-clause-stands : goal.find_end-back-requires-clause-stands
find_end-back-requires-clause-stands g c = c.find_bound-front.ensures.stands

pub new-requires-clause-tree : goal.new-requires-clause-tree
new-requires-clause-tree g c = let t = c.tree-height.ensures in rw (t.root, t.height) t.tree

pub new-requires-clause-front : goal.new-requires-clause-front
new-requires-clause-front g c = let t = c.tree-height.ensures in rw (t.root, t.height) c.find_bound-front.ensures.stands

pub new-requires-clause-back : goal.new-requires-clause-back
new-requires-clause-back g c = let t = c.tree-height.ensures in rw (t.root, t.height) c.find_end-back.ensures.stands

pub new-requires-clause-ahead : goal.new-requires-clause-ahead
new-requires-clause-ahead g c = let t = c.tree-height.ensures in rw (t.root, t.height) c.find_end-back.ensures.ends.ahead
