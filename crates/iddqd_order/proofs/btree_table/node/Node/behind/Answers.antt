use Rattle.iddqd_order.proofs.Names.{arith, rules}
use Rattle.iddqd_order.proofs.CursorLemmas.{goes-here}
use Rattle.iddqd_order.proofs.SpotLemmas.{found-in_leaf, looks-below}
use Rattle.iddqd_order.proofs.btree_table.node.Node.behind.Goals as goal

pub loop-level-init : goal.loop-level-init
loop-level-init c = record {
  low = omega arith;
  formed = c.requires.formed;
  goes = c.requires.goes;
  below = λ ix m s. s;
  last = λ end. record { some = tt; none = λ none. end };
}

pub returns-then-level-eq0-clause-found : goal.returns-then-level-eq0-clause-found
returns-then-level-eq0-clause-found c =
    let says = c.behind_gap-found.ensures in
    (found-in_leaf c.args.height c.loop-level.level c.get-place.result c.args.self.now c.loop-level.node.now
    c.args.path.now c.loop-level.found c.behind_gap-found.result c.if-level-eq0.true c.get-place.ensures
    c.loop-level.invariant (record { here = says.here; past = says.above })).some

pub returns-then-level-eq0-clause-ended : goal.returns-then-level-eq0-clause-ended
returns-then-level-eq0-clause-ended c =
    let says = c.behind_gap-found.ensures in
    (found-in_leaf c.args.height c.loop-level.level c.get-place.result c.args.self.now c.loop-level.node.now
    c.args.path.now c.loop-level.found c.behind_gap-found.result c.if-level-eq0.true c.get-place.ensures
    c.loop-level.invariant (record { here = says.here; past = says.above })).none

pub index-node-requires : goal.index-node-requires
index-node-requires c =
    let lt =
    goes-here c.loop-level.level c.get-place.result c.loop-level.node.now c.args.path.now c.if-level-eq0.false
    c.get-place.ensures c.loop-level.invariant.goes in
    search (rules, lt)

pub loop-level-preserved : goal.loop-level-preserved
loop-level-preserved c =
    looks-below c.args.height c.loop-level.level c.get-place.result c.args.self.now c.loop-level.node.now
    c.index-node.result.now c.args.path.now c.loop-level.found c.behind_gap-found.result c.if-level-eq0.false
    c.get-place.ensures c.index-node.ensures c.loop-level.invariant
    (record { here = c.behind_gap-found.ensures.here; past = c.behind_gap-found.ensures.above })
