use Rattle.std.proofs.Common.{arith}
use Rattle.std.proofs.lemmas.Grind.{common_steps}
use Rattle.iddqd_order.specs.Range.{indexes_ahead}
use Rattle.iddqd_order.proofs.RangeLemmas.{part-back, some-left}
use Rattle.iddqd_order.proofs.TreeLemmas.{place_in-within}
use Rattle.iddqd_order.proofs.btree_table.range.RangeDoubleEndedIterator.next_back.Goals as goal

pub invariant_of-self : goal.invariant_of-self
unfolding indexes_ahead
invariant_of-self c =
    let i = c.self.invariant in
    let within = place_in-within _ _ _ i.0 i.2.at.gap.goes in
    let left = some-left _ _ _ _ (rw (← c.self.view_is) at c.has_ended.ensures) c.if-has_ended.false i.3 within in
    (i.0, i.1, c.next_back.ensures.stands, (part-back _ _ _ _ _ left i.3 within c.next_back.ensures.next).0)

pub returns-clause-steps : goal.returns-clause-steps
unfolding indexes_ahead
returns-clause-steps c =
    let i = c.self.invariant in
    let within = place_in-within _ _ _ i.0 i.2.at.gap.goes in
    let left = some-left _ _ _ _ (rw (← c.self.view_is) at c.has_ended.ensures) c.if-has_ended.false i.3 within in
    rw (← c.self.view_is) (part-back _ _ _ _ _ left i.3 within c.next_back.ensures.next).1

pub returns-clause-goes : goal.returns-clause-goes
unfolding indexes_ahead
returns-clause-goes c = let steps = returns-clause-steps c in grind (arith, common_steps)
