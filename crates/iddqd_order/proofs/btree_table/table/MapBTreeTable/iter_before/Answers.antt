use Rattle.iddqd_order.proofs.Names.{◌∙◌, ap, arith, order_of, in_order, gap_of, part, take}
use Rattle.iddqd_order.proofs.RangeLemmas.{part-first}
use Rattle.iddqd_order.proofs.btree_table.table.MapBTreeTable.iter_before.Goals as goal

pub new-requires-clause-tree : goal.new-requires-clause-tree
new-requires-clause-tree c = let t = c.tree-height.ensures in rw (t.root, t.height) t.tree

pub new-requires-clause-front : goal.new-requires-clause-front
new-requires-clause-front c =
    let t = c.tree-height.ensures in rw (t.root, t.height) c.end_cursor-front.ensures.stands

pub new-requires-clause-back : goal.new-requires-clause-back
new-requires-clause-back c =
    let t = c.tree-height.ensures in rw (t.root, t.height) c.in-Some.ensures.stands

pub new-requires-clause-ahead : goal.new-requires-clause-ahead
new-requires-clause-ahead c =
    let t = c.tree-height.ensures in
    rw (t.root, t.height, c.end_cursor-front.ensures.gap) (omega arith)

pub returns-clause-ahead : goal.returns-clause-ahead
unfolding order_of
returns-clause-ahead c =
    let t = c.tree-height.ensures in let s = c.args.self.now in
    let back = c.in-Some.back in
    rw (t.root, t.height) at c.new.ensures
    ∙ ap (λ k. part k (gap_of s.root s.height back) (in_order s.root s.height)) c.end_cursor-front.ensures.gap
    ∙ part-first (gap_of s.root s.height back) (in_order s.root s.height)
    ∙ ap (λ k. take k (in_order s.root s.height)) c.in-Some.ensures.place
