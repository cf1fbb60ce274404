use Rattle.iddqd_order.proofs.Names.{◌∙◌, ap, arith, order_of, in_order, gap_of, part}
use Rattle.iddqd_order.proofs.RangeLemmas.{part-rest}
use Rattle.iddqd_order.proofs.TreeLemmas.{place_in-within}
use Rattle.iddqd_order.proofs.btree_table.table.MapBTreeTable.walk_from.Goals as goal

pub new-requires-clause-front : goal.new-requires-clause-front
new-requires-clause-front g c =
    let t = c.tree-height.ensures in rw (t.root, t.height) c.find_bound-front.ensures.stands

pub new-requires-clause-ahead : goal.new-requires-clause-ahead
new-requires-clause-ahead g c =
    let t = c.tree-height.ensures in
    let last = c.at_end-back.ensures.gap in
    let within = rw (← t.root, ← t.height) at (place_in-within _ _ _ t.tree c.find_bound-front.ensures.stands.at.gap.goes) in
    omega arith

pub returns : goal.returns
unfolding order_of
returns g c =
    let front = c.find_bound-front.ensures in let t = c.tree-height.ensures in
    let h = c.tree-height.result.1 in
    let ahead = c.new.ensures ∙ ap (λ k. part (gap_of c.tree-height.result.0.now h c.find_bound-front.result) k (in_order c.tree-height.result.0.now h)) c.at_end-back.ensures.gap
    ∙ part-rest (gap_of c.tree-height.result.0.now h c.find_bound-front.result) (in_order c.tree-height.result.0.now h) in
    record {
      asked = front.asked;
      place = _;
      within = place_in-within _ _ _ t.tree front.stands.at.gap.goes;
      ahead = rw (t.root, t.height) at ahead;
      bound = front.bound;
    }

pub new-requires-clause-tree : goal.new-requires-clause-tree
new-requires-clause-tree g c = let t = c.tree-height.ensures in rw (t.root, t.height) t.tree
