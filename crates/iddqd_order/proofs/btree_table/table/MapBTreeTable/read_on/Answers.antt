use Rattle.iddqd_order.proofs.Names.{arith, order_of}
use Rattle.iddqd_order.proofs.CursorLemmas.{IsAt-low}
use Rattle.iddqd_order.proofs.ReadLemmas.{stands-gap}
use Rattle.iddqd_order.proofs.btree_table.table.MapBTreeTable.read_on.Goals as goal

pub gap-leaf-requires : goal.gap-leaf-requires
gap-leaf-requires c =
    let t = c.tree-height.ensures in
    let stands = rw (t.root, t.height) at c.read-count.ensures.stands in
    let low = IsAt-low _ _ _ _ _ t.tree stands.at in
    omega arith

pub returns-clause-reads : goal.returns-clause-reads
unfolding order_of
returns-clause-reads c =
    let t = c.tree-height.ensures in
    let stands = rw (t.root, t.height) at c.read-count.ensures.stands in
    let gap = stands-gap c.args.self.now _ _ _ stands.at in
    let from = c.in-Some.ensures.place in
    let reads = rw (t.root, t.height) at c.read-count.ensures.reads in
    rw (c.gap-leaf.ensures, gap.1, ← from) reads

pub returns-clause-new_gap : goal.returns-clause-new_gap
returns-clause-new_gap c =
    let t = c.tree-height.ensures in
    let stands = rw (t.root, t.height) at c.read-count.ensures.stands in
    let gap = stands-gap c.args.self.now _ _ _ stands.at in
    rw c.gap-leaf.ensures gap.0
