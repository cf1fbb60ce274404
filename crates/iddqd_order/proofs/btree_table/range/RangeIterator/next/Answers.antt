use Rattle.std.proofs.Common.{rules}
use Rattle.iddqd_order.specs.Range.{indexes_ahead}
use Rattle.iddqd_order.proofs.RangeLemmas.{part-ahead, some-left}
use Rattle.iddqd_order.proofs.TreeLemmas.{place_in-within}
use Rattle.iddqd_order.proofs.btree_table.range.RangeIterator.next.Goals as goal

pub invariant_of-self : goal.invariant_of-self
unfolding indexes_ahead
invariant_of-self c =
    let i = c.self.invariant in
    let within = place_in-within _ _ _ i.0 i.2.at.gap.goes in
    let left = some-left _ _ _ _ (rw (← c.self.view_is) at c.has_ended.ensures) c.if-has_ended.false i.3 within in
    (i.0, c.next.ensures.stands, i.2, (part-ahead _ _ _ _ _ left i.3 within c.next.ensures.next).0)

pub returns-clause-steps : goal.returns-clause-steps
unfolding indexes_ahead
returns-clause-steps c =
    let i = c.self.invariant in
    let within = place_in-within _ _ _ i.0 i.2.at.gap.goes in
    let left = some-left _ _ _ _ (rw (← c.self.view_is) at c.has_ended.ensures) c.if-has_ended.false i.3 within in
    rw (← c.self.view_is) (part-ahead _ _ _ _ _ left i.3 within c.next.ensures.next).1

pub returns-clause-goes : goal.returns-clause-goes
unfolding indexes_ahead
returns-clause-goes c = let steps = returns-clause-steps c in search rules
