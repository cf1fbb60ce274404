use Rattle.iddqd_order.proofs.Names.{◌≡◌, ◌≢◌, ◌-◌, ◌<◌, ◌∙◌, ℕ, End, length, get_or, arith, rules, Node, row, children, child, IsFormed, edge_of}
use Rattle.iddqd_order.proofs.DescentLemmas.{path-here, child_is}
use Rattle.iddqd_order.proofs.NodeLemmas.{child-within, child-formed, formed-within}
use Rattle.iddqd_order.proofs.CursorLemmas.{at_edge-leaf, at_edge-inner, edge-within}
use Rattle.iddqd_order.proofs.btree_table.node.Node.+edge.Goals as goal

pub set-requires-clause-place : goal.set-requires-clause-place
set-requires-clause-place t c =
    let within =
    edge-within c.args.end (length (row c.args.self.now)) c.edge_place-place.result c.edge_place-place.ensures in
    let few = formed-within c.args.level c.args.self.now c.requires.formed in omega arith

pub returns-then-level-eq0-clause-edge : goal.returns-then-level-eq0-clause-edge
returns-then-level-eq0-clause-edge t c =
    let here =
    path-here c.args.path.now c.set.new.self c.args.level _ c.requires.path c.requires.levels c.set.ensures.place in
    at_edge-leaf c.args.end c.args.level c.edge_place-place.result c.args.self.now _ c.set.new.self c.if-level-eq0.true here c.edge_place-place.ensures c.as_slice.ensures

-- the child at that place
record Child (h i : ℕ) (n k : Node) : Type 0 where
  here : i < length (children n)
  is : k ≡ child n i
  formed : IsFormed (h - 1) k

child_at :
    (end : End) (h i : ℕ) (n k : Node)
    → h ≢ 0
    → IsFormed h n
    → i ≡ edge_of end (length (row n))
    → k ≡ get_or (children n) i k
    → Child h i n k
child_at end h i n k ne f e is_k =
    let here = child-within h n i ne f (edge-within end (length (row n)) i e) in
    let is = child_is n i k here is_k in
    record { here = here; is = is; formed = rw is (child-formed h n i ne f here) }

pub index-requires : goal.index-requires
index-requires t c =
    let within =
    edge-within c.args.end (length (row c.args.self.now)) c.edge_place-place.result c.edge_place-place.ensures in
    let lt = child-within c.args.level c.args.self.now c.edge_place-place.result c.if-level-eq0.false c.requires.formed within in
    search (rules, lt)

pub edge-requires : goal.edge-requires
edge-requires t c =
    let k = child_at c.args.end c.args.level c.edge_place-place.result c.args.self.now c.index.result.now c.if-level-eq0.false c.requires.formed c.edge_place-place.ensures c.index.ensures in
    let levels = c.requires.levels in
    (omega arith, (k.formed, (omega arith, c.set.ensures.length)))

pub returns-clause-edge : goal.returns-clause-edge
returns-clause-edge t c =
    let k = child_at c.args.end c.args.level c.edge_place-place.result c.args.self.now c.index.result.now c.if-level-eq0.false c.requires.formed c.edge_place-place.ensures c.index.ensures in
    let here = c.edge.ensures.above c.args.level (omega arith) ∙ path-here c.args.path.now c.set.new.self c.args.level _ c.requires.path c.requires.levels c.set.ensures.place in
    at_edge-inner c.args.end c.args.level _ c.args.self.now _ _ c.edge.new.path c.if-level-eq0.false c.requires.formed k.here k.is here c.edge_place-place.ensures c.edge.ensures.edge
