use Rattle.iddqd_order.proofs.Names.{arith, rules, sym}
use Rattle.iddqd_order.proofs.CursorLemmas.{goes-here, goes-in, leaf_parent-above, leaf_parent-one}
use Rattle.iddqd_order.proofs.btree_table.node.Node.+leaf_parent.Goals as goal

pub returns-then-level-eq1 : goal.returns-then-level-eq1
returns-then-level-eq1 t c =
    (omega arith, sym (leaf_parent-one c.args.level c.args.self.now c.args.path.now c.if-level-eq1.true))

pub index-requires : goal.index-requires
index-requires t c =
    let lt = goes-here c.args.level c.get.result c.args.self.now c.args.path.now c.if-level-eq0.false c.get.ensures c.requires.goes in
    search (rules, lt)

pub leaf_parent-requires : goal.leaf_parent-requires
leaf_parent-requires t c =
    let b = goes-in c.args.level c.get.result c.args.self.now c.index.result.now c.args.path.now c.if-level-eq0.false c.get.ensures c.requires.formed c.requires.goes c.index.ensures in
    let levels = c.requires.levels in
    (omega arith, (b.formed, (omega arith, b.goes)))

pub returns : goal.returns
returns t c =
    let b = goes-in c.args.level c.get.result c.args.self.now c.index.result.now c.args.path.now c.if-level-eq0.false c.get.ensures c.requires.formed c.requires.goes c.index.ensures in
    leaf_parent-above c.args.level c.get.result c.args.self.now c.args.path.now c.leaf_parent.result (omega arith)
    (sym c.get.ensures) (rw b.is at c.leaf_parent.ensures)
