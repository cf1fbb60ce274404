use Rattle.std.proofs.lemmas.Bool.{true≢false}
use Rattle.iddqd_order.proofs.Names.{◌≡◌, ◌<◌, length, arith, refl, ◌∙◌, below_more, rules, children, child}
use Rattle.iddqd_order.proofs.NodeLemmas.{formed-within, formed-inner, child-formed, path-here, path-above}
use Rattle.iddqd_order.proofs.DescentLemmas.{child_is, holds_index-here, holds_index-below, absent_leaf, absent_inner}
use Rattle.iddqd_order.proofs.btree_table.node.Node.+locate.Goals as goal

pub set-requires-clause-place : goal.set-requires-clause-place
set-requires-clause-place t c =
    let lt = (rw c.as_slice.ensures at (c.in-Some.ensures.there c.in-Some.i refl)).0 in
    omega (arith, formed-within c.args.height c.args.self.now c.requires.formed)

pub returns-in-Some-clause-there : goal.returns-in-Some-clause-there
returns-in-Some-clause-there t c =
    let at = rw c.as_slice.ensures at (c.in-Some.ensures.there c.in-Some.i refl) in
    let here = path-here c.args.path.now c.set.new.self c.args.height c.in-Some.i c.requires.path c.requires.levels c.set.ensures.place in
    holds_index-here c.args.height c.args.self.now c.set.new.self c.args.ix c.requires.formed (rw here at.0)
    (rw here at.1)

pub returns-then-height-eq0-clause-missing : goal.returns-then-height-eq0-clause-missing
returns-then-height-eq0-clause-missing t c none =
    absent_leaf c.args.height c.args.self.now c.args.ix c.if-height-eq0.true
    (rw c.as_slice.ensures at (c.in_default.ensures.missing refl))

pub set-requires-in-loop-i-clause-place : goal.set-requires-in-loop-i-clause-place
set-requires-in-loop-i-clause-place t c =
    let inner = (formed-inner c.args.height c.args.self.now c.if-height-eq0.false c.requires.formed).inner in
    let few = inner.within in let one = inner.one_more in
    let lt : c.loop-i.i < length (children c.args.self.now) = search rules in
    omega arith

pub locate-requires : goal.locate-requires
locate-requires t c =
    let lt : c.loop-i.i < length (children c.args.self.now) = search rules in
    let same : c.index.result.now ≡ child c.args.self.now c.loop-i.i =
    child_is c.args.self.now c.loop-i.i c.index.result.now lt c.index.ensures in
    let levels = c.requires.levels in
    (omega arith, (rw same (child-formed c.args.height c.args.self.now c.loop-i.i c.if-height-eq0.false c.requires.formed lt), (omega arith, c.set-in-loop-i.ensures.length)))

pub returns-in-Some-locate : goal.returns-in-Some-locate
returns-in-Some-locate t c = record {
  above = λ l lt.
      c.in-Some-locate.ensures.above l (omega arith)
      ∙ path-above c.loop-i.path c.set-in-loop-i.new.self c.args.height c.loop-i.i l c.set-in-loop-i.ensures.place lt
      ∙ c.loop-i.invariant.above l lt;
  there = (
      let h = c.args.height in let i = c.loop-i.i in
      let lt : i < length (children c.args.self.now) = search rules in
      let here = c.in-Some-locate.ensures.above h (omega arith) ∙ path-here c.loop-i.path c.set-in-loop-i.new.self h i c.loop-i.invariant.path c.requires.levels c.set-in-loop-i.ensures.place in
      holds_index-below c.in-Some-locate.level h i c.args.self.now c.index.result.now c.locate.new.path c.args.ix c.if-height-eq0.false c.requires.formed here lt c.index.ensures c.in-Some-locate.ensures.there);
  path = c.in-Some-locate.ensures.path;
  missing = λ x. absurd (true≢false x);
}

pub loop-i-preserved : goal.loop-i-preserved
loop-i-preserved t c =
    let h = c.args.height in let i = c.loop-i.i in
    let lt : i < length (children c.args.self.now) = search rules in
    let same : c.index.result.now ≡ child c.args.self.now i =
    child_is c.args.self.now i c.index.result.now lt c.index.ensures in
    record {
      path = c.in_default-locate.ensures.path;
      above = λ m up. c.in_default-locate.ensures.above m (omega arith) ∙ path-above c.loop-i.path c.set-in-loop-i.new.self h i m c.set-in-loop-i.ensures.place up ∙ c.loop-i.invariant.above m up;
      missing = below_more _ _ c.loop-i.invariant.missing (rw same at (c.in_default-locate.ensures.missing refl));
    }

pub returns : goal.returns
returns t c = record {
  missing = λ none.
      let over = c.loop-i-test.false in
      absent_inner c.args.height c.args.self.now c.args.ix c.if-height-eq0.false c.requires.formed
      (rw c.as_slice.ensures at (c.in_default.ensures.missing refl))
      (λ k lt. c.loop-i.invariant.missing k (let all : k < c.len-i-end.result = search (rules, lt) in omega arith));
  above = omega arith;
  path = omega arith;
  there = search rules;
}
