use Rattle.std.proofs.Common.{◌≡◌, ◌∙◌, ◌+◌, arith, sym, rules}
use Rattle.iddqd_order.proofs.RemovalLemmas.{goes-below, holds-level}
use Rattle.iddqd_order.proofs.DescentLemmas.{path-here, path-above}
use Rattle.iddqd_order.proofs.SpotCursorLemmas.{steps-on_below, ends-here, steps-leaf, ends-leaf, steps-here}
use Rattle.iddqd_order.proofs.btree_table.node.Node.step.Goals as goal

pub loop-at-init : goal.loop-at-init
loop-at-init c = record {
  high = holds-level c.args.level c.args.height c.args.self.now c.args.path.now c.requires.holds;
  low = omega arith;
  formed = c.requires.formed;
  holds = c.requires.holds;
  index = λ ix is. is;
  on = λ m q kept s. s;
  last = λ s. s;
}

-- on to the i-th child
pub index-node-requires : goal.index-node-requires
index-node-requires c =
    let now = c.loop-at.invariant in
    let b =
    goes-below c.loop-at.at c.args.level c.get-i.result c.loop-at.node.now c.args.path.now c.loop-at-test.true
    c.get-i.ensures now.formed now.holds in
    search (rules, b.here)

pub loop-at-preserved : goal.loop-at-preserved
loop-at-preserved c =
    steps-on_below c.args.height c.loop-at.at c.args.level c.get-i.result c.args.self.now c.loop-at.node.now
    c.index-node.result.now c.args.path.now c.loop-at.next c.level_behind-next.result c.loop-at-test.true
    c.get-i.ensures c.index-node.ensures c.loop-at.invariant
    (record { here = c.level_behind-next.ensures.here; past = c.level_behind-next.ensures.above })

-- the path ends at this node
pub get-ix-requires : goal.get-ix-requires
get-ix-requires c =
    (ends-here c.loop-at-test.false c.get-i-2.ensures c.loop-at.invariant.formed c.loop-at.invariant.holds).within

pub overflow_add-i : goal.overflow_add-i
overflow_add-i c =
    let now = c.loop-at.invariant in
    omega (arith, (ends-here c.loop-at-test.false c.get-i-2.ensures now.formed now.holds).low)

pub set_and_zero_below-requires-clause-place : goal.set_and_zero_below-requires-clause-place
set_and_zero_below-requires-clause-place c =
    let now = c.loop-at.invariant in
    omega (arith, (ends-here c.loop-at-test.false c.get-i-2.ensures now.formed now.holds).low)

pub overflow_add-i-2 : goal.overflow_add-i-2
overflow_add-i-2 c =
    let now = c.loop-at.invariant in
    omega (arith, (ends-here c.loop-at-test.false c.get-i-2.ensures now.formed now.holds).low)

pub returns-then-at-gt0-clause-index : goal.returns-then-at-gt0-clause-index
returns-then-at-gt0-clause-index c =
    let now = c.loop-at.invariant in
    now.index c.get-ix.result
    (c.get-ix.ensures ∙ sym (ends-here c.loop-at-test.false c.get-i-2.ensures now.formed now.holds).spot_is)

pub returns-then-at-gt0-clause-next : goal.returns-then-at-gt0-clause-next
returns-then-at-gt0-clause-next c =
    let now = c.loop-at.invariant in
    let e = ends-here c.loop-at-test.false c.get-i-2.ensures now.formed now.holds in
    now.on 0 c.set_and_zero_below.new.self (λ i up. c.set_and_zero_below.ensures.above i up)
    (steps-here c.loop-at.at c.args.level c.get-i-2.result c.loop-at.node.now c.args.path.now
    c.set_and_zero_below.new.self (λ z. absurd (omega arith)) e.level c.get-i-2.ensures now.formed now.holds
    c.set_and_zero_below.ensures.here c.set_and_zero_below.ensures.below)

pub returns-then-i-len-clause-index : goal.returns-then-i-len-clause-index
returns-then-i-len-clause-index c =
    let now = c.loop-at.invariant in
    now.index c.get-ix.result
    (c.get-ix.ensures ∙ sym (ends-here c.loop-at-test.false c.get-i-2.ensures now.formed now.holds).spot_is)

pub returns-then-i-len-clause-next : goal.returns-then-i-len-clause-next
returns-then-i-len-clause-next c =
    let now = c.loop-at.invariant in
    let len = c.len.ensures.length in
    let lt = c.if-i-len.true in
    let leaf : c.loop-at.at ≡ 0 = omega arith in
    let after = c.get-i-2.result + 1 in
    now.on 0 c.set.new.self
    (λ i up. path-above c.args.path.now c.set.new.self 0 after i c.set.ensures.place (omega arith))
    (steps-leaf c.loop-at.at c.args.level c.get-i-2.result c.loop-at.node.now c.args.path.now c.set.new.self leaf
    c.get-i-2.ensures now.holds (search (rules, lt))
    (path-here c.args.path.now c.set.new.self 0 after c.requires.path (omega arith) c.set.ensures.place))

pub returns-clause-index : goal.returns-clause-index
returns-clause-index c =
    let now = c.loop-at.invariant in
    now.index c.get-ix.result
    (c.get-ix.ensures ∙ sym (ends-here c.loop-at-test.false c.get-i-2.ensures now.formed now.holds).spot_is)

-- the path ends at the last index of its leaf
pub returns-clause-next : goal.returns-clause-next
returns-clause-next c =
    let now = c.loop-at.invariant in
    let len = c.len.ensures.length in
    let over = c.if-i-len.false in
    now.last (ends-leaf c.loop-at.at c.args.level c.get-i-2.result c.loop-at.node.now c.args.path.now c.args.path.now
    (omega arith) c.get-i-2.ensures now.holds (search (rules, over)))
