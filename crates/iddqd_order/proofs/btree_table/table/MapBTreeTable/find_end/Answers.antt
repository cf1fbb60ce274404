use Rattle.iddqd_order.proofs.Names.{Less, Greater, order_of}
use Rattle.iddqd_order.proofs.RangeLemmas.{ends-there, never-equal, less-unequal, greater-unequal}
use Rattle.iddqd_order.proofs.btree_table.table.MapBTreeTable.find_end.Goals as goal

pub seek_end-requires-clause-tree : goal.seek_end-requires-clause-tree
seek_end-requires-clause-tree g c = let t = c.tree-height.ensures in rw (t.root, t.height) t.tree

pub seek_end-requires-clause-stands : goal.seek_end-requires-clause-stands
seek_end-requires-clause-stands g c = let t = c.tree-height.ensures in rw (t.root, t.height) c.requires.stands

pub seek_end-requires-clause-unequal : goal.seek_end-requires-clause-unequal
seek_end-requires-clause-unequal g c r = never-equal Less (g.H.Reads.reading c.args.how.now r) less-unequal

pub seek_end-requires-clause-can_search : goal.seek_end-requires-clause-can_search
unfolding order_of
seek_end-requires-clause-can_search g c =
    let t = c.tree-height.ensures in rw (← t.root, ← t.height) at c.requires.can_search

pub returns-in-Less : goal.returns-in-Less
unfolding order_of
returns-in-Less g c =
    let t = c.tree-height.ensures in
    let e = c.seek_end.ensures in
    let there = ends-there g.F.FnMut (g.H.Reads.reading c.args.how.now) Less less-unequal t.root t.height _ _ _ e.stands c.args.front.now e.end in
    record { stands = there.0; asked = there.1; ends = rw c.in-Less.is there.2 }

pub seek_end-requires-in-Greater-clause-tree : goal.seek_end-requires-in-Greater-clause-tree
seek_end-requires-in-Greater-clause-tree g c = let t = c.tree-height.ensures in rw (t.root, t.height) t.tree

pub seek_end-requires-in-Greater-clause-stands : goal.seek_end-requires-in-Greater-clause-stands
seek_end-requires-in-Greater-clause-stands g c = let t = c.tree-height.ensures in rw (t.root, t.height) c.requires.stands

pub seek_end-requires-in-Greater-clause-unequal : goal.seek_end-requires-in-Greater-clause-unequal
seek_end-requires-in-Greater-clause-unequal g c r = never-equal Greater (g.H.Reads.reading c.args.how.now r) greater-unequal

pub seek_end-requires-in-Greater-clause-can_search : goal.seek_end-requires-in-Greater-clause-can_search
unfolding order_of
seek_end-requires-in-Greater-clause-can_search g c =
    let t = c.tree-height.ensures in rw (← t.root, ← t.height) at c.requires.can_search

pub returns-in-Greater : goal.returns-in-Greater
unfolding order_of
returns-in-Greater g c =
    let t = c.tree-height.ensures in
    let e = c.seek_end-in-Greater.ensures in
    let there = ends-there g.F.FnMut (g.H.Reads.reading c.args.how.now) Greater greater-unequal t.root t.height _ _ _ e.stands c.args.front.now e.end in
    record { stands = there.0; asked = there.1; ends = rw c.in-Greater.is there.2 }
