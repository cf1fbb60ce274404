use Rattle.std.proofs.Common.{rules, arith}
use Rattle.std.proofs.lemmas.Grind.{common_steps}
use Rattle.iddqd.proofs.WalkLemmas.{last_occupied, last_vacant}
use Rattle.iddqd.proofs.item_set.iter.IterDoubleEndedIterator.next_back.Goals as goal

pub overflow_sub-self : goal.overflow_sub-self
overflow_sub-self g c =
    let gave = last_occupied _ c.in-Some.rest.now _ _ c.in-Occupied.item _ (rw c.in-Occupied.is at c.in-Some.ensures.cases.0) c.loop-slot.invariant in
    gave.had_one

pub invariant_of-self : goal.invariant_of-self
invariant_of-self g c =
    let gave = last_occupied _ c.in-Some.rest.now _ _ c.in-Occupied.item _ (rw c.in-Occupied.is at c.in-Some.ensures.cases.0) c.loop-slot.invariant in
    gave.walk

pub returns-in-Occupied-clause-steps : goal.returns-in-Occupied-clause-steps
returns-in-Occupied-clause-steps g c =
    let gave = last_occupied _ c.in-Some.rest.now _ _ c.in-Occupied.item _ (rw c.in-Occupied.is at c.in-Some.ensures.cases.0) c.loop-slot.invariant in
    rw c.new-ix.ensures gave.steps

pub returns-in-Occupied-clause-goes : goal.returns-in-Occupied-clause-goes
returns-in-Occupied-clause-goes g c =
    let gave = last_occupied _ c.in-Some.rest.now _ _ c.in-Occupied.item _ (rw c.in-Occupied.is at c.in-Some.ensures.cases.0) c.loop-slot.invariant in
    search rules

pub loop-slot-preserved : goal.loop-slot-preserved
loop-slot-preserved g c =
    last_vacant _ c.in-Some.rest.now _ _ _ _ (rw c.in_default-slot.is at c.in-Some.ensures.cases.0) c.loop-slot.invariant

pub returns-clause-steps : goal.returns-clause-steps
returns-clause-steps g c = grind (arith, common_steps)
