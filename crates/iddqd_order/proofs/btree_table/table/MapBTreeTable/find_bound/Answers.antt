use Rattle.iddqd_order.proofs.Names.{Less, Greater, order_of}
use Rattle.iddqd_order.proofs.RangeLemmas.{bound-there, never-equal, less-unequal, greater-unequal}
use Rattle.iddqd_order.proofs.btree_table.table.MapBTreeTable.find_bound.Goals as goal

pub seek-requires-clause-tree : goal.seek-requires-clause-tree
seek-requires-clause-tree g c = let t = c.tree-height.ensures in rw (t.root, t.height) t.tree

pub seek-requires-clause-unequal : goal.seek-requires-clause-unequal
seek-requires-clause-unequal g c r = never-equal Less (g.H.Reads.reading c.args.how.now r) less-unequal

pub seek-requires-clause-can_search : goal.seek-requires-clause-can_search
unfolding order_of
seek-requires-clause-can_search g c =
    let t = c.tree-height.ensures in rw (← t.root, ← t.height) at c.requires.can_search

pub returns-in-Less : goal.returns-in-Less
unfolding order_of
returns-in-Less g c =
    let t = c.tree-height.ensures in
    let e = c.seek.ensures in
    let there = bound-there g.F.FnMut (g.H.Reads.reading c.args.how.now) Less less-unequal t.root t.height _ _ _ e.stands t.tree e.searches in
    record { tree = t.tree; stands = there.0; asked = there.1; bound = rw c.in-Less.is there.2 }

pub seek-requires-in-Greater-clause-tree : goal.seek-requires-in-Greater-clause-tree
seek-requires-in-Greater-clause-tree g c = let t = c.tree-height.ensures in rw (t.root, t.height) t.tree

pub seek-requires-in-Greater-clause-unequal : goal.seek-requires-in-Greater-clause-unequal
seek-requires-in-Greater-clause-unequal g c r = never-equal Greater (g.H.Reads.reading c.args.how.now r) greater-unequal

pub seek-requires-in-Greater-clause-can_search : goal.seek-requires-in-Greater-clause-can_search
unfolding order_of
seek-requires-in-Greater-clause-can_search g c =
    let t = c.tree-height.ensures in rw (← t.root, ← t.height) at c.requires.can_search

pub returns-in-Greater : goal.returns-in-Greater
unfolding order_of
returns-in-Greater g c =
    let t = c.tree-height.ensures in
    let e = c.seek-in-Greater.ensures in
    let there = bound-there g.F.FnMut (g.H.Reads.reading c.args.how.now) Greater greater-unequal t.root t.height _ _ _ e.stands t.tree e.searches in
    record { tree = t.tree; stands = there.0; asked = there.1; bound = rw c.in-Greater.is there.2 }
