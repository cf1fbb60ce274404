use Rattle.iddqd_order.proofs.Names.{◌≤◌, length, arith}
use Rattle.iddqd_order.specs.MapBTreeTable.{order_of}
use Rattle.iddqd_order.specs.Stepping.{row_of}
use Rattle.iddqd_order.proofs.SteppingLemmas.{child-at}
use Rattle.iddqd_order.proofs.btree_table.table.MapBTreeTable.down.Goals as goal

pub returns-clause-went : goal.returns-clause-went
unfolding order_of
returns-clause-went c = λ yes.
    let is = c.in-Some.ensures.row in
    let within : c.args.place ≤ length (row_of c.args.self.now c.args.node.now) = rw is at (c.if-place-row.false) in
    let at = child-at c.args.self.now c.args.node.now.path c.set.new.self c.args.node.now.level c.args.place c.tree-tree.ensures.tree c.in-Some.ensures.node c.if-node-eq0.false within c.in-Some.ensures.levels c.set.ensures.place c.set.ensures.length in
    let ne = c.if-node-eq0.false in
    record { above_is = c.in-Some.ensures.node; is_node = at.0; level = omega arith; narrows = at.1 }
