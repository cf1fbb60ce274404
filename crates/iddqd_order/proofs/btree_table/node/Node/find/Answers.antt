use Rattle.iddqd_order.proofs.Names.{◌≡◌, ◌-◌, ◌<◌, Some, None, length, sym, subst, rules, FindsIn, children, child, flat, CanSearch}
use Rattle.iddqd_order.proofs.AskLemmas.{CanAsk-each, CanAsk-again}
use Rattle.iddqd_order.proofs.NodeLemmas.{child-formed}
use Rattle.iddqd_order.proofs.DescentLemmas.{FindsIn-hit, FindsIn-leaf, FindsIn-below, can_ask_row, can_ask_below, child-within, child_is}
use Rattle.iddqd_order.proofs.btree_table.node.Node.find.Goals as goal

pub search_row-requires-clause-each : goal.search_row-requires-clause-each
search_row-requires-clause-each g c =
    let n = c.loop-i.node.now in
    let can =
    can_ask_row g.F.FnMut (g.H.Reads.reading c.args.how.now) None c.loop-i.level n c.loop-i.asking c.loop-i.invariant.formed c.loop-i.invariant.can_search in CanAsk-each g.F.FnMut _ can

pub search_row-requires-clause-again : goal.search_row-requires-clause-again
search_row-requires-clause-again g c =
    let n = c.loop-i.node.now in
    let can =
    can_ask_row g.F.FnMut (g.H.Reads.reading c.args.how.now) None c.loop-i.level n c.loop-i.asking c.loop-i.invariant.formed c.loop-i.invariant.can_search in CanAsk-again g.F.FnMut _ can

pub returns-in-Ok : goal.returns-in-Ok
returns-in-Ok g c =
    let n = c.loop-i.node.now in let f = c.loop-i.invariant.formed in let s = c.in-Ok.ensures in
    c.loop-i.invariant.rest (Some c.get.result) c.search_row.new.asking
    (FindsIn-hit g.F.FnMut (g.H.Reads.reading c.args.how.now) None c.loop-i.level n c.in-Ok.i c.get.result c.loop-i.asking c.search_row.new.asking f s c.get.ensures)

pub returns-then-level-eq0 : goal.returns-then-level-eq0
returns-then-level-eq0 g c =
    let n = c.loop-i.node.now in let f = c.loop-i.invariant.formed in let s = c.in-Err.ensures in
    c.loop-i.invariant.rest None c.search_row.new.asking
    (FindsIn-leaf g.F.FnMut (g.H.Reads.reading c.args.how.now) None c.loop-i.level n c.in-Err.i c.loop-i.asking c.search_row.new.asking c.if-level-eq0.true f s)

pub index-node-requires : goal.index-node-requires
index-node-requires g c =
    let n = c.loop-i.node.now in let s = c.in-Err.ensures in
    let lt : c.in-Err.i < length (children n) =
    child-within c.loop-i.level n c.in-Err.i c.if-level-eq0.false c.loop-i.invariant.formed s.missed in
    search (rules, lt)

pub loop-i-preserved : goal.loop-i-preserved
loop-i-preserved g c =
    let read = g.H.Reads.reading c.args.how.now in
    let l = c.loop-i.level in let n = c.loop-i.node.now in let i = c.in-Err.i in
    let k = c.index-node.result.now in let ne = c.if-level-eq0.false in let f = c.loop-i.invariant.formed in
    let s = c.in-Err.ensures in
    let lt : i < length (children n) = child-within l n i ne f s.missed in
    let same : k ≡ child n i = child_is n i k lt c.index-node.ensures in
    record {
      formed = rw same (child-formed l n i ne f lt);
      can_search = subst (λ z. CanSearch g.F.FnMut (flat (l - 1) z) None c.search_row.new.asking) (sym same) (can_ask_below g.F.FnMut read None l n i c.loop-i.asking c.search_row.new.asking ne f s c.loop-i.invariant.can_search);
      rest = λ found new t.
          c.loop-i.invariant.rest found new
          (FindsIn-below g.F.FnMut read None l n i found c.loop-i.asking c.search_row.new.asking new ne f s
          (subst (λ z. FindsIn g.F.FnMut read None (l - 1) z c.search_row.new.asking found new) same t));
    }
