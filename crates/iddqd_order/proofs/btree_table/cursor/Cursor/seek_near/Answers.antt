use Rattle.std.proofs.lemmas.Bool.{false≢true}
use Rattle.iddqd_order.proofs.Names.{◌+◌, arith, in_order, Askable, None, true≢false}
use Rattle.iddqd_order.proofs.AskLemmas.{asks_more, CanAsk-later}
use Rattle.iddqd_order.proofs.NearbyLemmas.{advances-then}
use Rattle.iddqd_order.proofs.PartLemmas.{SearchesWithin-more}
use Rattle.iddqd_order.proofs.btree_table.cursor.Cursor.seek_near.Goals as goal

pub has_passed-requires-clause-tree : goal.has_passed-requires-clause-tree
has_passed-requires-clause-tree g c = c.requires.tree

pub has_passed-requires-clause-stands : goal.has_passed-requires-clause-stands
has_passed-requires-clause-stands g c = c.requires.stands

pub has_passed-requires-clause-can_search : goal.has_passed-requires-clause-can_search
has_passed-requires-clause-can_search g c = c.requires.can_search

pub returns-then-not-has_passed : goal.returns-then-not-has_passed
returns-then-not-has_passed g c =
    let some = c.requires.some in
    record {
      stands = c.requires.stands;
      ahead = omega arith;
      found = λ found. absurd (false≢true found);
      some = λ found. absurd (false≢true found);
      missed = λ missed. asks_more g.F.FnMut (Askable (in_order c.args.root.now c.args.height) None) (omega arith) c.has_passed.ensures.asked;
    }

pub loop-height-init : goal.loop-height-init
loop-height-init g c = record {
  stands = c.requires.stands;
  ahead = omega arith;
  some = c.requires.some;
  advanced = (1, omega arith, c.has_passed.ensures.advances c.if-not-has_passed.false);
}

pub seek_in_leaf-requires-clause-tree : goal.seek_in_leaf-requires-clause-tree
seek_in_leaf-requires-clause-tree g c = c.requires.tree

pub seek_in_leaf-requires-clause-stands : goal.seek_in_leaf-requires-clause-stands
seek_in_leaf-requires-clause-stands g c = c.loop-height.invariant.stands

pub seek_in_leaf-requires-clause-unequal : goal.seek_in_leaf-requires-clause-unequal
seek_in_leaf-requires-clause-unequal g c = c.requires.unequal

pub seek_in_leaf-requires-clause-can_search : goal.seek_in_leaf-requires-clause-can_search
seek_in_leaf-requires-clause-can_search g c = CanAsk-later g.F.FnMut (Askable (in_order c.args.root.now c.args.height) None) c.loop-height.invariant.advanced.2.asked.after c.requires.can_search

pub returns-then-seek_in_leaf : goal.returns-then-seek_in_leaf
returns-then-seek_in_leaf g c =
    let held = c.loop-height.invariant in
    let some = held.some in
    let most = held.advanced.1 in
    let before = held.ahead in
    let next = c.seek_in_leaf.ensures.ahead in
    record {
      stands = c.seek_in_leaf.ensures.stands;
      ahead = omega arith;
      found = λ arrived.
          SearchesWithin-more g.F.FnMut (g.H.Reads.reading c.args.how.now) None (omega arith)
          (c.seek_in_leaf.ensures.arrives c.if-seek_in_leaf.true _ _ held.advanced.2);
      some = λ arrived. c.has_passed.ensures.some c.if-not-has_passed.false;
      missed = λ missed. absurd (true≢false missed);
    }

pub returns-then-left-eq0 : goal.returns-then-left-eq0
returns-then-left-eq0 g c =
    let held = c.loop-height.invariant in
    let some = held.some in
    let most = held.advanced.1 in
    let before = held.ahead in
    let next = c.seek_in_leaf.ensures.ahead in
    record {
      stands = c.seek_in_leaf.ensures.stands;
      ahead = omega arith;
      found = λ found. absurd (false≢true found);
      some = λ found. absurd (false≢true found);
      missed = λ missed.
          asks_more g.F.FnMut (Askable (in_order c.args.root.now c.args.height) None) (omega arith)
          (c.seek_in_leaf.ensures.goes_on c.if-seek_in_leaf.false _ _ held.advanced.2).asked;
    }

pub seek_over-requires-clause-tree : goal.seek_over-requires-clause-tree
seek_over-requires-clause-tree g c =
    let end = c.seek_in_leaf.ensures.end c.if-seek_in_leaf.false in c.requires.tree

pub seek_over-requires-clause-stands : goal.seek_over-requires-clause-stands
seek_over-requires-clause-stands g c =
    let end = c.seek_in_leaf.ensures.end c.if-seek_in_leaf.false in c.seek_in_leaf.ensures.stands

pub seek_over-requires-clause-end : goal.seek_over-requires-clause-end
seek_over-requires-clause-end g c =
    let end = c.seek_in_leaf.ensures.end c.if-seek_in_leaf.false in omega arith

pub seek_over-requires-clause-unequal : goal.seek_over-requires-clause-unequal
seek_over-requires-clause-unequal g c =
    let end = c.seek_in_leaf.ensures.end c.if-seek_in_leaf.false in c.requires.unequal

pub seek_over-requires-clause-can_search : goal.seek_over-requires-clause-can_search
seek_over-requires-clause-can_search g c =
    let end = c.seek_in_leaf.ensures.end c.if-seek_in_leaf.false in CanAsk-later g.F.FnMut (Askable (in_order c.args.root.now c.args.height) None)
    (c.seek_in_leaf.ensures.goes_on c.if-seek_in_leaf.false _ _ c.loop-height.invariant.advanced.2).asked.after c.requires.can_search

pub returns-then-not-seek_over : goal.returns-then-not-seek_over
returns-then-not-seek_over g c =
    let held = c.loop-height.invariant in
    let some = held.some in
    let most = held.advanced.1 in
    let before = held.ahead in
    let next = c.seek_in_leaf.ensures.ahead in
    let over = c.seek_over.ensures.ahead in
    record {
      stands = c.seek_over.ensures.stands;
      ahead = omega arith;
      found = λ arrived.
          SearchesWithin-more g.F.FnMut (g.H.Reads.reading c.args.how.now) None (omega arith)
          (c.seek_over.ensures.arrives c.if-not-seek_over.true _ _ (c.seek_in_leaf.ensures.goes_on c.if-seek_in_leaf.false _ _ held.advanced.2));
      some = λ arrived. c.has_passed.ensures.some c.if-not-has_passed.false;
      missed = λ missed. absurd (true≢false missed);
    }

pub loop-height-preserved : goal.loop-height-preserved
loop-height-preserved g c =
    let some = c.loop-height.invariant.some in
    let ahead = c.loop-height.invariant.ahead in
    let next = c.seek_in_leaf.ensures.ahead in
    let over = c.seek_over.ensures.ahead in
    let left = c.if-left-eq0.false in
    let limit = c.loop-height.invariant.advanced.0 in
    let most = c.loop-height.invariant.advanced.1 in
    record {
      stands = c.seek_over.ensures.stands;
      ahead = omega arith;
      some = omega arith;
      advanced = (limit + 1 + 1, omega arith, advances-then g.F.FnMut (g.H.Reads.reading c.args.how.now) (c.seek_in_leaf.ensures.goes_on c.if-seek_in_leaf.false _ _ c.loop-height.invariant.advanced.2) (c.seek_over.ensures.advances c.if-not-seek_over.false));
    }
