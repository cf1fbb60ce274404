use Rattle.iddqd_order.proofs.Names.{◌≡◌, ◌<◌, ◌∙◌, [], None, Some, arith, rules, refl, ap, sym, subst, row, most_levels, order_of}
use Rattle.iddqd_order.proofs.NodeLemmas.{formed-within}
use Rattle.iddqd_order.proofs.SteppingLemmas.{goes-level, leaf-span, stands-at}
use Rattle.iddqd_order.specs.Stepping.{GoesToIn, IsAllBetween, StandsBetween, high, low, row_in}
use Rattle.iddqd_order.proofs.btree_table.table.MapBTreeTable.row.Goals as goal

pub returns-clause-few : goal.returns-clause-few
returns-clause-few c =
    let few = formed-within c.args.node.now.level c.in_ok-found.found.now c.in_ok-found.ensures.formed in
    rw c.as_slice.ensures few

pub returns-clause-levels : goal.returns-clause-levels
returns-clause-levels c =
    let le = goes-level c.args.node.now.level c.tree-height.result.1 c.in-Some.root c.args.node.now.path c.in_ok-found.ensures.goes in
    let high : c.tree-height.result.1 < most_levels = search rules in
    omega arith

pub returns-clause-stands : goal.returns-clause-stands
unfolding order_of
returns-clause-stands c =
    let t = c.args.self.now in
    let e : t.root ≡ Some c.in-Some.root = sym c.tree-height.ensures.root ∙ c.in-Some.is in
    let node : GoesToIn c.args.node.now.level t.root t.height c.args.node.now.path =
    rw (e, ← c.tree-height.ensures.height) c.in_ok-found.ensures.goes in
    let is : row_in c.args.node.now.level t.root t.height c.args.node.now.path ≡ row c.in_ok-found.found.now =
    rw (e, ← c.tree-height.ensures.height) (ap row (sym c.in_ok-found.ensures.node)) in
    subst (λ z. StandsBetween (order_of t) z (low t c.args.node.now) (high t c.args.node.now)) (is ∙ sym c.as_slice.ensures)
    (stands-at t c.args.node.now.path c.args.node.now.level c.tree-height.ensures.tree node)

pub returns-clause-leaf : goal.returns-clause-leaf
unfolding order_of
returns-clause-leaf c = λ leaf.
    let t = c.args.self.now in
    let e : t.root ≡ Some c.in-Some.root = sym c.tree-height.ensures.root ∙ c.in-Some.is in
    let node : GoesToIn c.args.node.now.level t.root t.height c.args.node.now.path =
    rw (e, ← c.tree-height.ensures.height) c.in_ok-found.ensures.goes in
    let is : row_in c.args.node.now.level t.root t.height c.args.node.now.path ≡ row c.in_ok-found.found.now =
    rw (e, ← c.tree-height.ensures.height) (ap row (sym c.in_ok-found.ensures.node)) in
    subst (λ z. IsAllBetween (order_of t) z (low t c.args.node.now) (high t c.args.node.now)) (is ∙ sym c.as_slice.ensures)
    (leaf-span t c.args.node.now.path c.args.node.now.level c.tree-height.ensures.tree leaf node)

pub returns-then-node-eq0-clause-stands : goal.returns-then-node-eq0-clause-stands
unfolding order_of
returns-then-node-eq0-clause-stands c =
    let t = c.args.self.now in
    let e : t.root ≡ None = sym c.tree-height.ensures.root ∙ c.in_default.is in
    let node : GoesToIn c.args.node.now.level t.root t.height c.args.node.now.path = rw e c.if-node-eq0.true in
    let is : row_in c.args.node.now.level t.root t.height c.args.node.now.path ≡ [] = rw e refl in
    subst (λ z. StandsBetween (order_of t) z (low t c.args.node.now) (high t c.args.node.now)) is
    (stands-at t c.args.node.now.path c.args.node.now.level c.tree-height.ensures.tree node)
