use Rattle.std.proofs.Common.{ℕ, sym, subst}
use Rattle.std.specs.List.{Contains}
use Rattle.iddqd.proofs.LiveItemLemmas.{IsWalkOf-live_pairs}
use Rattle.iddqd.proofs.StoreLemmas.{contains_head, contains_tail}
use Rattle.iddqd_examples.specs.declared.driver.pair.Pair.{Pair}
use Rattle.iddqd_examples.proofs.driver.whole.index_of.Goals as goal

pub loop-ix-init : goal.loop-ix-init
loop-ix-init c = record {
  live = λ ix pair listed.
      let given = c.into_iter-ix-iterator.ensures.into_iter_gives in
      ((IsWalkOf-live_pairs c.args.pairs.now.state.store).live ix pair).0
      (subst (λ pairs. Contains pairs (ix, pair)) given listed);
}

pub returns-then-pair-first : goal.returns-then-pair-first
returns-then-pair-first c =
    let at : ℕ × Pair = (c.in-Some.ix, c.in-Some.pair.now) in
    let listed = subst (λ pairs. Contains pairs at) (sym c.in-Some.ensures.steps) (contains_head at c.next.new.self) in
    (c.in-Some.pair.now, c.loop-ix.invariant.live c.in-Some.ix c.in-Some.pair.now listed, c.if-pair-first.true)

pub loop-ix-preserved : goal.loop-ix-preserved
loop-ix-preserved c = record {
  live = λ ix pair listed.
      let at : ℕ × Pair = (c.in-Some.ix, c.in-Some.pair.now) in
      let still = contains_tail at (ix, pair) c.next.new.self listed in
      c.loop-ix.invariant.live ix pair
      (subst (λ pairs. Contains pairs (ix, pair)) (sym c.in-Some.ensures.steps) still);
}
