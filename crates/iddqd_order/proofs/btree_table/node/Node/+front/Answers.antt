use Rattle.iddqd_order.proofs.Names.{◌≡◌, ◌≢◌, ◌-◌, ◌<◌, ◌≤◌, ℕ, length, get_or, arith, rules, Node, row, children, child, IsFormed}
use Rattle.iddqd_order.proofs.DescentLemmas.{child_is, behind-first, behind-row}
use Rattle.iddqd_order.proofs.FrontLemmas.{full-leaf, full-inner}
use Rattle.iddqd_order.proofs.NodeLemmas.{child-within, child-formed, child-least}
use Rattle.iddqd_order.proofs.btree_table.node.Node.+front.Goals as goal

pub returns-then-level-eq0-clause-first : goal.returns-then-level-eq0-clause-first
returns-then-level-eq0-clause-first t c =
    behind-row c.args.level _ c.args.self.now c.if-level-eq0.true (omega arith) c.get.ensures

pub returns-then-level-eq0-clause-full : goal.returns-then-level-eq0-clause-full
returns-then-level-eq0-clause-full t c path first =
    let e = c.full_from-here.ensures in
    full-leaf c.full_from-here.result c.args.full c.args.level c.args.self.now path c.if-level-eq0.true
    (record { above = c.requires.above; not_full = e.not_full; is_full = e.is_full })

-- the first child
record Child (h : ℕ) (n k : Node) : Type 0 where
  here : 0 < length (children n)
  is : k ≡ child n 0
  formed : IsFormed (h - 1) k
  some : 1 ≤ length (row k)

child_at : (h : ℕ) (n k : Node) → h ≢ 0 → IsFormed h n → k ≡ get_or (children n) 0 k → Child h n k
child_at h n k ne f is_k =
    let here = child-within h n 0 ne f (omega arith) in
    let is = child_is n 0 k here is_k in
    let least = child-least h n 0 ne f here in
    record { here = here; is = is; formed = rw is (child-formed h n 0 ne f here); some = rw is (omega arith) }

pub index-requires : goal.index-requires
index-requires t c =
    let lt = child-within c.args.level c.args.self.now 0 c.if-level-eq0.false c.requires.formed (omega arith) in
    search (rules, lt)

pub front-requires : goal.front-requires
front-requires t c =
    let k = child_at c.args.level c.args.self.now c.index.result.now c.if-level-eq0.false c.requires.formed c.index.ensures in
    let up = c.full_from-here.ensures.above in
    let above = c.requires.above in
    (omega arith, (k.formed, (k.some, omega arith)))

pub returns-clause-first : goal.returns-clause-first
returns-clause-first t c =
    let k = child_at c.args.level c.args.self.now c.index.result.now c.if-level-eq0.false c.requires.formed c.index.ensures in
    behind-first c.args.level _ c.args.self.now c.if-level-eq0.false c.requires.formed k.here
    (rw k.is at c.front.ensures.first)

pub returns-clause-full : goal.returns-clause-full
returns-clause-full t c path first =
    let k = child_at c.args.level c.args.self.now c.index.result.now c.if-level-eq0.false c.requires.formed c.index.ensures in
    let e = c.full_from-here.ensures in
    full-inner _ c.args.full c.full_from-here.result c.args.level c.args.self.now path c.if-level-eq0.false
    (record { above = c.requires.above; not_full = e.not_full; is_full = e.is_full }) (first c.args.level (omega arith))
    (rw k.is at (c.front.ensures.full path (λ l le. first l (omega arith))))
