use Rattle.std.proofs.lemmas.Bool.{true≢false}
use Rattle.std.proofs.Common.{arith}
use Rattle.std.proofs.lemmas.Grind.{common_steps}
use Rattle.iddqd_order.proofs.Names.{◌∙◌, slice_index, arith, refl, rules, ap}
use Rattle.iddqd_order.proofs.DescentLemmas.{path-here, child_is}
use Rattle.iddqd_order.proofs.NodeLemmas.{child-within, child-formed, formed-inner, goes-leaf}
use Rattle.iddqd_order.proofs.CursorLemmas.{goes-here, goes-in, beside-within, over-leaf, over-below, over-here, ended-leaf, ended-here}
use Rattle.iddqd_order.proofs.btree_table.node.Node.+step_over.Goals as goal

-- in a leaf
pub beside-requires : goal.beside-requires
beside-requires t c =
    let at = goes-leaf c.args.level c.args.self.now c.args.path.now c.if-level-eq0.true c.requires.goes in
    let is = c.get-place.ensures ∙ ap (slice_index c.args.path.now) c.if-level-eq0.true in
    let len = c.len.ensures.length in
    omega arith

pub returns-in_default : goal.returns-in_default
returns-in_default t c = record {
  path = c.requires.path;
  ended = λ none.
      ended-leaf c.args.towards c.args.level c.get-place.result c.args.self.now c.args.path.now c.if-level-eq0.true
      (rw (c.in_default.is, c.len.ensures.length) at c.beside.ensures) c.get-place.ensures;
  over = search rules;
  above = omega arith;
  unchanged = search rules;
}

pub returns-then-level-eq0 : goal.returns-then-level-eq0
returns-then-level-eq0 t c = record {
  over = (
      let here =
      ap (slice_index c.set.new.self) c.if-level-eq0.true
      ∙ path-here c.args.path.now c.set.new.self 0 _ c.requires.path (omega arith) c.set.ensures.place in
      rw c.get.ensures (over-leaf c.args.towards c.args.level c.get-place.result (c.in-Some.at, c.in-Some.next) c.args.self.now c.args.path.now _ c.set.new.self c.if-level-eq0.true
      (rw c.len.ensures.length at c.in-Some.ensures) c.get-place.ensures here c.as_slice.ensures));
  ended = λ x. absurd (true≢false x);
  unchanged = λ x. absurd (true≢false x);
  path = omega arith;
  above = search rules;
}

-- below the child
pub index-requires : goal.index-requires
index-requires t c =
    let lt = goes-here c.args.level c.get-place.result c.args.self.now c.args.path.now c.if-level-eq0.false c.get-place.ensures c.requires.goes in
    search (rules, lt)

pub step_over-requires : goal.step_over-requires
step_over-requires t c =
    let b = goes-in c.args.level c.get-place.result c.args.self.now c.index.result.now c.args.path.now c.if-level-eq0.false c.get-place.ensures c.requires.formed c.requires.goes c.index.ensures in
    let levels = c.requires.levels in
    (omega arith, (b.formed, (omega arith, (c.requires.path, b.goes))))

pub returns-in-Some-step_over : goal.returns-in-Some-step_over
returns-in-Some-step_over t c = record {
  above = grind (arith, common_steps);
  over = (
      let b = goes-in c.args.level c.get-place.result c.args.self.now c.index.result.now c.args.path.now c.if-level-eq0.false c.get-place.ensures c.requires.formed c.requires.goes c.index.ensures in
      over-below c.args.towards c.args.level _ _ c.args.self.now _ c.args.path.now _ c.step_over.new.path c.if-level-eq0.false c.requires.formed b c.get-place.ensures
      (c.in-Some-step_over.ensures.above c.args.level (omega arith)) c.in-Some-step_over.ensures.over);
  path = c.in-Some-step_over.ensures.path;
  unchanged = c.in-Some-step_over.ensures.unchanged;
  ended = λ x. absurd (true≢false x);
}

-- beside the child
pub beside-requires-2 : goal.beside-requires-2
beside-requires-2 t c =
    let lt = goes-here c.args.level c.get-place.result c.args.self.now c.args.path.now c.if-level-eq0.false c.get-place.ensures c.requires.goes in
    let one = (formed-inner c.args.level c.args.self.now c.if-level-eq0.false c.requires.formed).inner.one_more in
    let len = c.len-2.ensures.length in
    omega arith

pub returns-in_default-beside : goal.returns-in_default-beside
returns-in_default-beside t c = record {
  above = grind (arith, common_steps);
  ended = λ none.
      let b = goes-in c.args.level c.get-place.result c.args.self.now c.index.result.now c.args.path.now c.if-level-eq0.false c.get-place.ensures c.requires.formed c.requires.goes c.index.ensures in
      ended-here c.args.towards c.args.level _ c.args.self.now _ c.args.path.now c.if-level-eq0.false c.requires.formed b c.get-place.ensures (rw (c.in_default-beside.is, c.len-2.ensures.length) at c.beside-2.ensures) (c.in_default-step_over.ensures.ended refl);
  path = c.in_default-step_over.ensures.path;
  unchanged = c.in_default-step_over.ensures.unchanged;
  over = search rules;
}

pub index-requires-2 : goal.index-requires-2
index-requires-2 t c =
    let inside =
    beside-within c.args.towards _ _ (c.in-Some-beside.at, c.in-Some-beside.next) c.in-Some-beside.ensures in
    let len = c.len-2.ensures.length in
    let lt =
    child-within c.args.level c.args.self.now c.in-Some-beside.next c.if-level-eq0.false c.requires.formed
    (omega arith) in
    search (rules, lt)

pub edge-row-requires-clause-formed : goal.edge-row-requires-clause-formed
edge-row-requires-clause-formed t c =
    let inside =
    beside-within c.args.towards _ _ (c.in-Some-beside.at, c.in-Some-beside.next) c.in-Some-beside.ensures in
    let len = c.len-2.ensures.length in
    let lt =
    child-within c.args.level c.args.self.now c.in-Some-beside.next c.if-level-eq0.false c.requires.formed
    (omega arith) in
    rw (child_is c.args.self.now c.in-Some-beside.next c.index-2.result.now lt c.index-2.ensures)
    (child-formed c.args.level c.args.self.now c.in-Some-beside.next c.if-level-eq0.false c.requires.formed lt)

pub returns : goal.returns
returns t c = record {
  ended = grind (arith, common_steps);
  above = grind (arith, common_steps);
  over = (
      let b = goes-in c.args.level c.get-place.result c.args.self.now c.index.result.now c.args.path.now c.if-level-eq0.false c.get-place.ensures c.requires.formed c.requires.goes c.index.ensures in
      let inside =
      beside-within c.args.towards _ _ (c.in-Some-beside.at, c.in-Some-beside.next) c.in-Some-beside.ensures in
      let len = c.len-2.ensures.length in
      let lt =
      child-within c.args.level c.args.self.now c.in-Some-beside.next c.if-level-eq0.false c.requires.formed
      (omega arith) in
      let is = child_is c.args.self.now c.in-Some-beside.next c.index-2.result.now lt c.index-2.ensures in
      let here = c.edge-row.ensures.above c.args.level (omega arith) ∙ path-here c.step_over.new.path c.set-2.new.self c.args.level _ c.in_default-step_over.ensures.path c.requires.levels c.set-2.ensures.place in
      rw c.get-2.ensures (over-here c.args.towards c.args.level c.get-place.result (c.in-Some-beside.at, c.in-Some-beside.next) c.args.self.now c.index.result.now _ c.args.path.now _ c.edge-row.new.path
      c.if-level-eq0.false c.requires.formed b c.get-place.ensures
      (rw c.len-2.ensures.length at c.in-Some-beside.ensures) (c.in_default-step_over.ensures.ended refl) lt is here
      (rw c.opposite.ensures at c.edge-row.ensures.edge)));
  path = c.edge-row.ensures.path;
  unchanged = λ x. absurd (true≢false x);
}

pub get-requires-2 : goal.get-requires-2
get-requires-2 t c = grind (arith, common_steps)
