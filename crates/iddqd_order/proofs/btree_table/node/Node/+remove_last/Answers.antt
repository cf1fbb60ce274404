use Rattle.iddqd_order.proofs.Names.{rules, ℕ, suc, set, children, ◌-◌, [], ◌∷◌, ◌++◌, arith, ap, ◌∙◌, sym, roll-Node, out-roll-Node}
use Rattle.iddqd_order.proofs.NodeLemmas.{child-within, row-roll, children-roll}
use Rattle.iddqd_order.proofs.RemovalLemmas.{last-of-leaf, child-before, TookLast, took-last, remade, room-kept}
use Rattle.iddqd_order.proofs.RecountLemmas.{child-counted, inners-leaf, unchanged, recounted-below, recounted-mended}
use Rattle.iddqd_order.specs.Node.{inners}
use Rattle.iddqd_order.specs.Removal.{inners_of, Recounts}
use Rattle.iddqd_order.proofs.btree_table.node.Node.+remove_last.Goals as goal

pub returns-then-height-eq0 : goal.returns-then-height-eq0
returns-then-height-eq0 t c =
    let k = last-of-leaf c.args.height c.len-count.result c.args.self.now (roll-Node _) c.remove.result c.if-height-eq0.true c.len-count.ensures.length c.requires.formed c.requires.some (row-roll _ ∙ c.remove.ensures.items) c.remove.ensures.value (children-roll _) in
    record {
      items = k.items;
      formed = k.formed;
      fewer = k.fewer;
      counted =
          unchanged c.args.reserve.now (inners-leaf c.args.height c.args.self.now c.if-height-eq0.true)
          (inners-leaf c.args.height (roll-Node _) c.if-height-eq0.true);
    }

pub index_mut-requires : goal.index_mut-requires
index_mut-requires t c =
    let w =
    child-within c.args.height c.args.self.now c.len-count.result c.if-height-eq0.false c.requires.formed
    (omega arith) in
    search (rules, w)

pub remove_last-last-requires : goal.remove_last-last-requires
remove_last-last-requires t c =
    let b =
    child-before c.args.height c.len-count.result c.args.self.now c.index_mut.result.now c.if-height-eq0.false
    (omega arith) c.requires.formed (search rules) in
    let five = b.1.0 in
    let k = child-counted c.args.height c.len-count.result c.args.self.now c.index_mut.result.now c.if-height-eq0.false b.0 (search rules) in
    (omega arith, (omega arith, (b.1.1, omega (arith, k, c.requires.counted))))

took :
    (t : ℕ) (c : goal.After-mend-arg-3-1 t)
    → TookLast c.args.height c.len-count.result c.args.self.now
    (set (children c.args.self.now) c.len-count.result c.remove_last-last.new.self) c.remove_last-last.result
took t c =
    let d = c.remove_last-last.ensures in
    took-last c.args.height c.len-count.result c.args.self.now c.index_mut.result.now c.remove_last-last.new.self c.remove_last-last.result c.if-height-eq0.false c.len-count.ensures.length c.requires.formed c.requires.some (search rules) d.items d.formed d.fewer

below :
    (t : ℕ) (c : goal.After-mend-arg-3-1 t)
    → Recounts c.args.reserve.now c.remove_last-last.new.reserve (inners c.args.height c.args.self.now)
    (suc (inners_of (c.args.height - 1)
    (set (children c.args.self.now) c.len-count.result c.remove_last-last.new.self)))
below t c =
    recounted-below c.args.height c.len-count.result c.args.self.now c.index_mut.result.now c.remove_last-last.new.self c.args.reserve.now c.remove_last-last.new.reserve c.if-height-eq0.false
    (child-within c.args.height c.args.self.now c.len-count.result c.if-height-eq0.false c.requires.formed (omega arith)) (search rules) c.remove_last-last.ensures.counted

pub mend-requires : goal.mend-requires
mend-requires t c =
    record {
      lacks = (c.args.height - 1, simp out-roll-Node (took t c).took.may_lack);
      some = omega (arith, c.requires.counted, (below t c).inners);
    }

pub returns : goal.returns
returns t c =
    let k = took t c.before in
    let m = simp out-roll-Node at c.mend.ensures.mended in
    let r =
    remade c.args.height c.len-count.result c.args.self.now (roll-Node _) _ _ _ _ _ k.took
    (m (c.args.height - 1) k.took.may_lack) (row-roll _) (children-roll _)
    (room-kept c.args.self.now _ (simp out-roll-Node at c.mend.ensures.capacity)) in
    let d = simp out-roll-Node at c.mend.ensures.counted in
    record {
      items = k.items ∙ ap (λ z. z ++ c.remove_last-last.result ∷ []) (sym r.items);
      formed = r.formed;
      fewer = r.fewer;
      counted = recounted-mended c.args.height c.args.self.now (roll-Node _) (set (children c.args.self.now) c.len-count.result c.remove_last-last.new.self) c.mend.new.children.items c.args.reserve.now c.remove_last-last.new.reserve c.mend.new.reserve c.if-height-eq0.false (below t c.before) (d (c.args.height - 1) k.took.may_lack) (children-roll _);
    }
