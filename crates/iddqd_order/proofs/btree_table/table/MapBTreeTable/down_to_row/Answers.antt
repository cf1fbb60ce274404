use Rattle.iddqd_order.proofs.Names.{◌≡◌, ◌-◌, ◌<◌, ◌≤◌, ◌∙◌, length, arith, rules, sym, ap, Some, row, child, most_levels}
use Rattle.iddqd_order.specs.MapBTreeTable.{order_of}
use Rattle.iddqd_order.specs.Stepping.{row_in, GoesToIn}
use Rattle.iddqd_order.proofs.NodeLemmas.{child-within, child-formed, formed-within}
use Rattle.iddqd_order.proofs.DescentLemmas.{child_is}
use Rattle.iddqd_order.proofs.SteppingLemmas.{child-at, child-row, goes-level}
use Rattle.iddqd_order.proofs.btree_table.table.MapBTreeTable.down_to_row.Goals as goal

pub index-child-requires : goal.index-child-requires
index-child-requires c =
    let lt = child-within c.args.node.now.level c.in_ok-above.above.now c.args.place c.if-node-eq0.false
    c.in_ok-above.ensures.formed (omega arith) in
    search (rules, lt)

pub set-requires-clause-level : goal.set-requires-clause-level
set-requires-clause-level c =
    let le = goes-level c.args.node.now.level c.tree-height.result.1 c.in-Some.root c.args.node.now.path
    c.in_ok-above.ensures.goes in
    let high : c.tree-height.result.1 < most_levels = search rules in
    omega arith

pub returns-clause-went : goal.returns-clause-went
unfolding order_of
returns-clause-went c =
    let le = goes-level c.args.node.now.level c.tree-height.result.1 c.in-Some.root c.args.node.now.path
    c.in_ok-above.ensures.goes in
    let high : c.tree-height.result.1 < most_levels = search rules in
    let e : c.args.self.now.root ≡ Some c.in-Some.root = sym c.tree-height.ensures.root ∙ c.in-Some.is in
    let node : GoesToIn c.args.node.now.level c.args.self.now.root c.args.self.now.height c.args.node.now.path =
    rw (e, ← c.tree-height.ensures.height) c.in_ok-above.ensures.goes in
    let is : row_in c.args.node.now.level c.args.self.now.root c.args.self.now.height c.args.node.now.path ≡ row
    c.in_ok-above.above.now =
    rw (e, ← c.tree-height.ensures.height) (ap row (sym c.in_ok-above.ensures.node)) in
    let few : c.args.place ≤ length (row c.in_ok-above.above.now) = omega arith in
    let at = child-at c.args.self.now c.args.node.now.path c.set.new.self c.args.node.now.level c.args.place
    c.tree-height.ensures.tree node c.if-node-eq0.false (rw is few) (omega arith) c.set.ensures.place
    c.set.ensures.length in
    let ne = c.if-node-eq0.false in
    record { above_is = node; is_node = at.0; level = omega arith; narrows = at.1 }

pub returns-clause-row : goal.returns-clause-row
returns-clause-row c =
    let le = goes-level c.args.node.now.level c.tree-height.result.1 c.in-Some.root c.args.node.now.path
    c.in_ok-above.ensures.goes in
    let high : c.tree-height.result.1 < most_levels = search rules in
    let e : c.args.self.now.root ≡ Some c.in-Some.root = sym c.tree-height.ensures.root ∙ c.in-Some.is in
    let above = c.in_ok-above.above.now in
    let lt = child-within c.args.node.now.level above c.args.place c.if-node-eq0.false c.in_ok-above.ensures.formed
    (omega arith) in
    let same = c.in_ok-above.ensures.node in
    let k = c.index-child.result.now in
    let is : k ≡ child above c.args.place = child_is above c.args.place k lt c.index-child.ensures in
    c.as_slice.ensures ∙
    (rw (← c.tree-height.ensures.height)
    (child-row c.args.self.now.root c.tree-height.result.1 c.args.node.now.level c.args.place c.in-Some.root k
    c.args.node.now.path c.set.new.self e c.in_ok-above.ensures.goes c.if-node-eq0.false (rw (← same) lt) (omega arith)
    (is ∙ ap (λ z. child z c.args.place) same) c.set.ensures.place c.set.ensures.length))

pub returns-clause-few : goal.returns-clause-few
returns-clause-few c =
    let above = c.in_ok-above.above.now in
    let lt = child-within c.args.node.now.level above c.args.place c.if-node-eq0.false c.in_ok-above.ensures.formed
    (omega arith) in
    let k = c.index-child.result.now in
    let is : k ≡ child above c.args.place = child_is above c.args.place k lt c.index-child.ensures in
    let f = child-formed c.args.node.now.level above c.args.place c.if-node-eq0.false c.in_ok-above.ensures.formed lt in
    rw (c.as_slice.ensures, is) (formed-within (c.args.node.now.level - 1) (child above c.args.place) f)
