use Rattle.iddqd_order.proofs.Names.{◌∙◌, ap, order_of, in_order, gap_of, part, drop}
use Rattle.iddqd_order.proofs.RangeLemmas.{part-rest}
use Rattle.iddqd_order.proofs.TreeLemmas.{place_in-within}
use Rattle.iddqd_order.proofs.btree_table.table.MapBTreeTable.iter_behind.Goals as goal

pub new-requires-clause-tree : goal.new-requires-clause-tree
new-requires-clause-tree c = let t = c.tree-height.ensures in rw (t.root, t.height) t.tree

pub new-requires-clause-front : goal.new-requires-clause-front
new-requires-clause-front c =
    let t = c.tree-height.ensures in rw (t.root, t.height) c.in-Some.ensures.stands

pub new-requires-clause-back : goal.new-requires-clause-back
new-requires-clause-back c =
    let t = c.tree-height.ensures in rw (t.root, t.height) c.end_cursor-back.ensures.stands

pub new-requires-clause-ahead : goal.new-requires-clause-ahead
unfolding order_of
new-requires-clause-ahead c =
    let t = c.tree-height.ensures in
    let last = c.end_cursor-back.ensures.gap in
    let within = place_in-within _ _ _ t.tree c.in-Some.ensures.stands.at.gap.goes in
    rw (t.root, t.height, last) within

pub returns-clause-ahead : goal.returns-clause-ahead
unfolding order_of
returns-clause-ahead c =
    let t = c.tree-height.ensures in let s = c.args.self.now in
    let front = c.in-Some.front in
    rw (t.root, t.height) at c.new.ensures
    ∙ ap (λ k. part (gap_of s.root s.height front) k (in_order s.root s.height)) c.end_cursor-back.ensures.gap
    ∙ part-rest (gap_of s.root s.height front) (in_order s.root s.height)
    ∙ ap (λ k. drop k (in_order s.root s.height)) c.in-Some.ensures.place
