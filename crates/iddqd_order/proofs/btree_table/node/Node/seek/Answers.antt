use Rattle.iddqd_order.proofs.Names.{◌≡◌, ◌-◌, ◌<◌, ℕ, None, length, slice_index, arith, refl, sym, ap, ◌∙◌, subst, rules, children, child, leaf, leaf_parent}
use Rattle.iddqd_order.specs.Descent.{Seeks}
use Rattle.iddqd_order.proofs.AskLemmas.{CanAsk-each, CanAsk-again}
use Rattle.iddqd_order.proofs.NodeLemmas.{child-formed, child-within, formed-within, path-here, path-above}
use Rattle.iddqd_order.proofs.CursorLemmas.{leaf-at, leaf-zero, leaf_parent-at, leaf_parent-here, leaf_parent-one}
use Rattle.iddqd_order.proofs.DescentLemmas.{Seeks-leaf, Seeks-below, can_ask_row, can_ask_below, child_is}
use Rattle.iddqd_order.proofs.btree_table.node.Node.seek.Goals as goal

pub loop-i-init : goal.loop-i-init
loop-i-init g c = record {
  formed = c.requires.formed;
  low = omega arith;
  path = c.requires.path;
  can_search = c.requires.can_search;
  rest = λ p new same d. d;
  leaf_is = λ p same. refl;
  above = λ p same ne. refl;
  parent = λ p same e. leaf_parent-here c.args.height c.args.self.now p e;
}

pub search_row-requires-clause-each : goal.search_row-requires-clause-each
search_row-requires-clause-each g c =
    let can =
    can_ask_row g.F.FnMut (g.H.Reads.reading c.args.how.now) None c.loop-i.level c.loop-i.node.now c.loop-i.asking c.loop-i.invariant.formed c.loop-i.invariant.can_search in CanAsk-each g.F.FnMut _ can

pub search_row-requires-clause-again : goal.search_row-requires-clause-again
search_row-requires-clause-again g c =
    let can =
    can_ask_row g.F.FnMut (g.H.Reads.reading c.args.how.now) None c.loop-i.level c.loop-i.node.now c.loop-i.asking c.loop-i.invariant.formed c.loop-i.invariant.can_search in CanAsk-again g.F.FnMut _ can

pub set-requires-clause-place : goal.set-requires-clause-place
set-requires-clause-place g c =
    let within = formed-within c.loop-i.level c.loop-i.node.now c.loop-i.invariant.formed in
    let missed = c.in-Err.ensures.missed in omega arith

pub returns-then-level-eq0 : goal.returns-then-level-eq0
returns-then-level-eq0 g c = record {
  seeks = (
      let l = c.loop-i.level in let p = c.set.new.self in let held = c.loop-i.invariant in
      let here : slice_index p l ≡ c.in-Err.i =
      path-here c.loop-i.path p l c.in-Err.i held.path (let low = held.low in let up = c.requires.levels in omega arith) c.set.ensures.place in
      held.rest p c.search_row.new.asking (λ m lt. path-above c.loop-i.path p l c.in-Err.i m c.set.ensures.place lt)
      (Seeks-leaf g.F.FnMut (g.H.Reads.reading c.args.how.now) None l c.loop-i.node.now p c.loop-i.asking c.search_row.new.asking c.if-level-eq0.true held.formed (rw here c.in-Err.ensures)));
  parent = (
      let p = c.set.new.self in
      sym (c.loop-i.invariant.parent p (λ m lt. path-above c.loop-i.path p c.loop-i.level c.in-Err.i m c.set.ensures.place lt) c.if-level-eq0.true));
  leaf = (
      let p = c.set.new.self in
      c.as_slice.ensures
      ∙ sym (c.loop-i.invariant.leaf_is p (λ m lt. path-above c.loop-i.path p c.loop-i.level c.in-Err.i m c.set.ensures.place lt) ∙ leaf-zero c.loop-i.level c.loop-i.node.now p c.if-level-eq0.true));
  path = omega arith;
}

pub index-node-requires : goal.index-node-requires
index-node-requires g c =
    let lt = child-within c.loop-i.level c.loop-i.node.now c.in-Err.i c.if-level-eq0.false c.loop-i.invariant.formed c.in-Err.ensures.missed in
    search (rules, lt)

pub loop-i-preserved : goal.loop-i-preserved
loop-i-preserved g c =
    let read = g.H.Reads.reading c.args.how.now in
    let l = c.loop-i.level in let n = c.loop-i.node.now in
    let i = c.in-Err.i in let k = c.index-node.result.now in let path = c.set.new.self in
    let a = c.loop-i.asking in let b = c.search_row.new.asking in
    let ne = c.if-level-eq0.false in let held = c.loop-i.invariant in let s = c.in-Err.ensures in
    let lt : i < length (children n) = child-within l n i ne held.formed s.missed in
    let same : k ≡ child n i = child_is n i k lt c.index-node.ensures in
    let low = held.low in
    let here : slice_index path l ≡ i =
    path-here c.loop-i.path path l i held.path (let up = c.requires.levels in omega arith) c.set.ensures.place in
    let kept : (p : _) → ((m : ℕ) → l - 1 < m → slice_index p m ≡ slice_index path m) → (m : ℕ) → l < m → slice_index p m ≡ slice_index c.loop-i.path m =
    λ p on m up. on m (omega arith) ∙ path-above c.loop-i.path path l i m c.set.ensures.place up in
    record {
      formed = rw same (child-formed l n i ne held.formed lt);
      low = omega arith;
      path = c.set.ensures.length;
      can_search = rw same (can_ask_below g.F.FnMut read None l n i a b ne held.formed s held.can_search);
      rest = λ p new on d.
          held.rest p new (kept p on)
          (Seeks-below g.F.FnMut read None l i n p a b new ne (on l (omega arith) ∙ here) held.formed s
          (subst (λ z. Seeks g.F.FnMut read None (l - 1) z b p new) same d));
      leaf_is = λ p on. held.leaf_is p (kept p on) ∙ leaf-at l i n p ne (on l (omega arith) ∙ here) ∙ ap (λ z. leaf (l - 1) z p) (sym same);
      above = λ p on inner.
          held.above p (kept p on) ne ∙ leaf_parent-at l i n p (omega arith) (on l (omega arith) ∙ here)
          ∙ ap (λ z. leaf_parent (l - 1) z p) (sym same);
      parent = λ p on e. held.above p (kept p on) ne ∙ leaf_parent-one l n p (omega arith);
    }
