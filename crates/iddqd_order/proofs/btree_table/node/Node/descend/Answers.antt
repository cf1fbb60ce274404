use Rattle.std.proofs.Common.{arith}
use Rattle.iddqd_order.proofs.Names.{◌≡◌, ◌+◌, ◌-◌, ◌*◌, ◌<◌, Ok, Err, length, slice_index, arith, sym, ap, ◌∙◌, subst, rules, Descends, children, child, row_asks}
use Rattle.iddqd_order.proofs.AskLemmas.{CanAsk-each, CanAsk-again}
use Rattle.iddqd_order.proofs.NodeLemmas.{child-formed, child-within, path-here, path-above}
use Rattle.iddqd_order.proofs.DescentLemmas.{Counts, Descends-hit, Descends-leaf, Descends-below, can_ask_row, can_ask_below, child_is}
use Rattle.iddqd_order.proofs.btree_table.node.Node.descend.Goals as goal

pub loop-i-init : goal.loop-i-init
loop-i-init g c = record {
  formed = c.requires.formed;
  levels = c.requires.levels;
  path = c.requires.path;
  can_search = c.requires.can_search;
  above = omega arith;
  rest = λ p end new same d. d;
}

pub search_row-requires-clause-each : goal.search_row-requires-clause-each
search_row-requires-clause-each g c =
    let can =
    can_ask_row g.F.FnMut (g.H.Reads.reading c.args.how.now) c.args.sought.now c.loop-i.level c.loop-i.node.now c.loop-i.asking c.loop-i.invariant.formed c.loop-i.invariant.can_search in CanAsk-each g.F.FnMut _ can

pub search_row-requires-clause-again : goal.search_row-requires-clause-again
search_row-requires-clause-again g c =
    let can =
    can_ask_row g.F.FnMut (g.H.Reads.reading c.args.how.now) c.args.sought.now c.loop-i.level c.loop-i.node.now c.loop-i.asking c.loop-i.invariant.formed c.loop-i.invariant.can_search in CanAsk-again g.F.FnMut _ can

pub returns-in-Ok : goal.returns-in-Ok
returns-in-Ok g c = record {
  descends = (
      let read = g.H.Reads.reading c.args.how.now in
      let l = c.loop-i.level in
      let n = c.loop-i.node.now in
      let p = c.set.new.self in
      let a = c.loop-i.asking in
      let b = c.search_row.new.asking in
      let held = c.loop-i.invariant in
      let here : slice_index p l ≡ c.in-Ok.i =
      path-here c.loop-i.path p l c.in-Ok.i held.path held.levels c.set.ensures.place in
      held.rest p (Ok l) b (λ m lt. path-above c.loop-i.path p l c.in-Ok.i m c.set.ensures.place lt)
      (Descends-hit g.F.FnMut read c.args.sought.now (row_asks * (l + 1)) c.loop-i.full l n p a b (omega arith) held.formed (rw here c.in-Ok.ensures)));
  path = omega arith;
}

pub returns-then-level-eq0 : goal.returns-then-level-eq0
returns-then-level-eq0 g c = record {
  descends = (
      let read = g.H.Reads.reading c.args.how.now in
      let l = c.loop-i.level in
      let n = c.loop-i.node.now in
      let p = c.set-in-Err.new.self in
      let a = c.loop-i.asking in
      let b = c.search_row.new.asking in
      let held = c.loop-i.invariant in let counted = c.full_from-full.ensures in
      let here : slice_index p l ≡ c.in-Err.i =
      path-here c.loop-i.path p l c.in-Err.i held.path held.levels c.set-in-Err.ensures.place in
      held.rest p (Err c.full_from-full.result) b
      (λ m lt. path-above c.loop-i.path p l c.in-Err.i m c.set-in-Err.ensures.place lt)
      (Descends-leaf g.F.FnMut read c.args.sought.now (row_asks * (l + 1)) c.loop-i.full c.full_from-full.result l n p a b (omega arith) c.if-level-eq0.true held.formed (rw here c.in-Err.ensures)
      (record { above = held.above; not_full = counted.not_full; is_full = counted.is_full })));
  path = omega arith;
}

pub index-node-requires : goal.index-node-requires
index-node-requires g c =
    let lt = child-within c.loop-i.level c.loop-i.node.now c.in-Err.i c.if-level-eq0.false c.loop-i.invariant.formed c.in-Err.ensures.missed in
    search (rules, lt)

pub loop-i-preserved : goal.loop-i-preserved
loop-i-preserved g c =
    let read = g.H.Reads.reading c.args.how.now in
    let sought = c.args.sought.now in let l = c.loop-i.level in let n = c.loop-i.node.now in
    let i = c.in-Err.i in let k = c.index-node.result.now in let path = c.set-in-Err.new.self in
    let a = c.loop-i.asking in let b = c.search_row.new.asking in let full = c.full_from-full.result in
    let ne = c.if-level-eq0.false in let held = c.loop-i.invariant in let s = c.in-Err.ensures in
    let lt : i < length (children n) = child-within l n i ne held.formed s.missed in
    let same : k ≡ child n i = child_is n i k lt c.index-node.ensures in
    let levels = held.levels in
    let counts : Counts n c.loop-i.full l full =
    record {
      above = held.above;
      not_full = c.full_from-full.ensures.not_full;
      is_full = c.full_from-full.ensures.is_full;
    } in
    record {
      formed = rw same (child-formed l n i ne held.formed lt);
      levels = omega arith;
      path = c.set-in-Err.ensures.length;
      can_search = rw same (can_ask_below g.F.FnMut read sought l n i a b ne held.formed s held.can_search);
      above = (let up = c.full_from-full.ensures.above in omega arith);
      rest = λ p end new on d.
          let here : slice_index p l ≡ i =
          on l (omega arith) ∙ path-here c.loop-i.path path l i held.path held.levels c.set-in-Err.ensures.place in
          held.rest p end new
          (λ m up. on m (omega arith) ∙ path-above c.loop-i.path path l i m c.set-in-Err.ensures.place up)
          (Descends-below g.F.FnMut read sought (row_asks * (l + 1)) c.loop-i.full full l n p end a b new (omega arith) ne held.formed (rw here s) counts (subst (λ z. Descends g.F.FnMut read sought (row_asks * (l - 1 + 1)) full (l - 1) z b p end new) (same ∙ ap (child n) (sym here)) d));
    }
