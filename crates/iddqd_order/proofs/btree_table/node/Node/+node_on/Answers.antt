use Rattle.iddqd_order.proofs.Names.{◌<◌, ◌≤◌, length, children, arith, sym, rules}
use Rattle.std.proofs.lemmas.Option.{IfSome_then}
use Rattle.iddqd_order.proofs.NodeLemmas.{child-formed}
use Rattle.iddqd_order.proofs.SteppingLemmas.{goes-here, goes-level, goes-on, node_at-here, node_at-on, on-goes, on_child, under}
use Rattle.iddqd_order.proofs.btree_table.node.Node.+node_on.Goals as goal

pub returns-then-level-height-clause-none : goal.returns-then-level-height-clause-none
returns-then-level-height-clause-none t c =
    λ none g. let le = goes-level c.args.level c.args.height c.args.self.now c.args.path.now g in omega arith

pub returns-then-level-height-2-clause-goes : goal.returns-then-level-height-2-clause-goes
returns-then-level-height-2-clause-goes t c =
    goes-here c.args.level c.args.height c.args.self.now c.args.path.now c.if-level-height-2.true

pub returns-then-level-height-2-clause-node : goal.returns-then-level-height-2-clause-node
returns-then-level-height-2-clause-node t c =
    sym (node_at-here c.args.level c.args.height c.args.self.now c.args.path.now c.if-level-height-2.true)

pub returns-then-place-len-clause-none : goal.returns-then-place-len-clause-none
returns-then-place-len-clause-none t c = λ none g.
    let less : c.args.level < c.args.height = omega arith in
    let u = under c.args.level c.args.height c.args.self.now c.args.path.now less g in
    let here = u.here in
    let few : length (children c.args.self.now) ≤ c.get-place.result = search rules in
    omega arith

pub node_on-requires : goal.node_on-requires
node_on-requires t c =
    let less : c.args.level < c.args.height = omega arith in
    let inside : c.get-place.result < length (children c.args.self.now) = search rules in
    let o = on_child c.args.level c.args.height c.get-place.result c.args.self.now c.index.result.now c.args.path.now less c.get-place.ensures inside c.index.ensures in
    let is = o.is in
    let levels = c.requires.levels in
    (omega arith, (rw is (child-formed c.args.height c.args.self.now c.get-place.result (λ z. absurd (omega arith)) c.requires.formed o.here), omega arith))

pub returns-clause-goes : goal.returns-clause-goes
returns-clause-goes t c =
    let less : c.args.level < c.args.height = omega arith in
    let inside : c.get-place.result < length (children c.args.self.now) = search rules in
    let o = on_child c.args.level c.args.height c.get-place.result c.args.self.now c.index.result.now c.args.path.now less c.get-place.ensures inside c.index.ensures in
    IfSome_then c.node_on.result c.node_on.ensures.goes (λ m g. goes-on o g)

pub returns-clause-node : goal.returns-clause-node
returns-clause-node t c =
    let less : c.args.level < c.args.height = omega arith in
    let inside : c.get-place.result < length (children c.args.self.now) = search rules in
    let o = on_child c.args.level c.args.height c.get-place.result c.args.self.now c.index.result.now c.args.path.now less c.get-place.ensures inside c.index.ensures in
    IfSome_then c.node_on.result c.node_on.ensures.node (λ m e. node_at-on o m.now e)

pub returns-clause-none : goal.returns-clause-none
returns-clause-none t c = λ none g.
    let less : c.args.level < c.args.height = omega arith in
    let inside : c.get-place.result < length (children c.args.self.now) = search rules in
    let o = on_child c.args.level c.args.height c.get-place.result c.args.self.now c.index.result.now c.args.path.now less c.get-place.ensures inside c.index.ensures in
    c.node_on.ensures.none none (on-goes o g)
