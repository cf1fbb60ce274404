use Rattle.std.proofs.lemmas.Bool.{false≢true}
use Rattle.iddqd_order.proofs.Names.{arith, refl, order_of}
use Rattle.iddqd_order.proofs.FrontLemmas.{Descends-later, can_search-later}
use Rattle.iddqd_order.proofs.TableLemmas.{EndsIn-none, EndsIn-spot, EndsIn-gap}
use Rattle.iddqd_order.proofs.btree_table.table.MapBTreeTable.descend.Goals as goal

pub returns-in_default-clause-ends : goal.returns-in_default-clause-ends
returns-in_default-clause-ends g c =
    rw (← c.self.view_is, c.in_default.is)
    (EndsIn-none g.F.FnMut (g.H.Reads.reading c.args.how.now) c.args.sought.now _ _ _ _ (rw c.in_default.is at c.self.invariant.tree) refl)

pub try_front-requires-clause-formed : goal.try_front-requires-clause-formed
try_front-requires-clause-formed g c = (rw c.in-Some.is at c.self.invariant.tree).0

pub try_front-requires-clause-levels : goal.try_front-requires-clause-levels
try_front-requires-clause-levels g c = (rw c.in-Some.is at c.self.invariant.tree).2

pub try_front-requires-clause-some : goal.try_front-requires-clause-some
try_front-requires-clause-some g c = (rw c.in-Some.is at c.self.invariant.tree).1

pub try_front-requires-clause-first : goal.try_front-requires-clause-first
try_front-requires-clause-first g c = c.leftmost-path.ensures.places

pub try_front-requires-clause-can_search : goal.try_front-requires-clause-can_search
unfolding order_of
try_front-requires-clause-can_search g c = rw (← c.self.view_is, c.in-Some.is) at c.requires

pub descend-requires-clause-formed : goal.descend-requires-clause-formed
descend-requires-clause-formed g c = (rw c.in-Some.is at c.self.invariant.tree).0

pub descend-requires-clause-levels : goal.descend-requires-clause-levels
descend-requires-clause-levels g c = (rw c.in-Some.is at c.self.invariant.tree).2

pub descend-requires-clause-path : goal.descend-requires-clause-path
descend-requires-clause-path g c = c.leftmost-path.ensures.length

pub descend-requires-clause-can_search : goal.descend-requires-clause-can_search
unfolding order_of
descend-requires-clause-can_search g c =
    can_search-later g.F.FnMut (g.H.Reads.reading c.args.how.now) c.args.sought.now _ _ _ c.try_front.ensures.asked
    (rw (← c.self.view_is, c.in-Some.is) at c.requires)

-- it would have found the front
pub returns-in-Ok : goal.returns-in-Ok
unfolding order_of
returns-in-Ok g c = record {
  one_ask = λ start answer steady some less.
      let found = c.in_default-try_front.ensures.found start answer (rw (← c.self.view_is, c.in-Some.is) at steady) in
      absurd (false≢true (found (rw (← c.self.view_is, c.in-Some.is) at less)));
  ends = (
      rw (← c.self.view_is, c.in-Some.is)
      (EndsIn-spot g.F.FnMut (g.H.Reads.reading c.args.how.now) c.args.sought.now _ _ _ _ _ _ (omega arith) (rw c.in-Some.is at c.self.invariant.tree)
      (Descends-later g.F.FnMut (g.H.Reads.reading c.args.how.now) c.args.sought.now _ _ _ _ _ _ _ _ c.try_front.ensures.asked c.in-Ok.ensures.descends)));
}

pub returns-in-Err : goal.returns-in-Err
unfolding order_of
returns-in-Err g c = record {
  one_ask = λ start answer steady some less.
      let found = c.in_default-try_front.ensures.found start answer (rw (← c.self.view_is, c.in-Some.is) at steady) in
      absurd (false≢true (found (rw (← c.self.view_is, c.in-Some.is) at less)));
  ends = (
      rw (← c.self.view_is, c.in-Some.is)
      (EndsIn-gap g.F.FnMut (g.H.Reads.reading c.args.how.now) c.args.sought.now _ _ _ _ _ _ (omega arith) (rw c.in-Some.is at c.self.invariant.tree)
      (Descends-later g.F.FnMut (g.H.Reads.reading c.args.how.now) c.args.sought.now _ _ _ _ _ _ _ _ c.try_front.ensures.asked c.in-Err.ensures.descends)));
}

-- it asked at the front alone
pub returns-in-Some-try_front : goal.returns-in-Some-try_front
unfolding order_of
returns-in-Some-try_front g c = record {
  ends = (
      rw (← c.self.view_is, c.in-Some.is)
      (EndsIn-gap g.F.FnMut (g.H.Reads.reading c.args.how.now) c.args.sought.now _ _ _ _ _ _ (omega arith) (rw c.in-Some.is at c.self.invariant.tree) c.in-Some-try_front.ensures.front));
  one_ask = λ start answer steady some less. rw (← c.self.view_is, c.in-Some.is) c.try_front.ensures.asked;
}
