use Rattle.std.proofs.Common.{rules, arith}
use Rattle.std.proofs.lemmas.Grind.{common_steps}
use Rattle.std.specs.Vec.Iter.{into_iter_items}
use Rattle.iddqd.proofs.WalkLemmas.{last_item_occupied, last_item_vacant}
use Rattle.iddqd.proofs.item_set.into_values.IntoValuesDoubleEndedIterator.next_back.Goals as goal

pub overflow_sub-self : goal.overflow_sub-self
overflow_sub-self g c =
    let gave = last_item_occupied _ (into_iter_items c.next_back.new.self) _ c.in-Occupied.item _ (rw c.in-Occupied.is at c.in-Some.ensures.steps) c.loop-slot.invariant in
    gave.had_one

pub invariant_of-self : goal.invariant_of-self
invariant_of-self g c =
    let gave = last_item_occupied _ (into_iter_items c.next_back.new.self) _ c.in-Occupied.item _ (rw c.in-Occupied.is at c.in-Some.ensures.steps) c.loop-slot.invariant in
    gave.counted

pub returns-in-Occupied-clause-steps : goal.returns-in-Occupied-clause-steps
returns-in-Occupied-clause-steps g c =
    let gave = last_item_occupied _ (into_iter_items c.next_back.new.self) _ c.in-Occupied.item _ (rw c.in-Occupied.is at c.in-Some.ensures.steps) c.loop-slot.invariant in
    let steps = gave.steps in search rules

pub returns-in-Occupied-clause-goes : goal.returns-in-Occupied-clause-goes
returns-in-Occupied-clause-goes g c =
    let gave = last_item_occupied _ (into_iter_items c.next_back.new.self) _ c.in-Occupied.item _ (rw c.in-Occupied.is at c.in-Some.ensures.steps) c.loop-slot.invariant in
    search rules

pub loop-slot-preserved : goal.loop-slot-preserved
loop-slot-preserved g c =
    last_item_vacant _ (into_iter_items c.next_back.new.self) _ _ _ (rw c.in_default-slot.is at c.in-Some.ensures.steps) c.loop-slot.invariant

pub returns-clause-steps : goal.returns-clause-steps
returns-clause-steps g c = grind (arith, common_steps)

pub invariant_of-self-in_default : goal.invariant_of-self-in_default
invariant_of-self-in_default g c = grind (arith, common_steps)

pub loop-slot-smaller : goal.loop-slot-smaller
loop-slot-smaller g c = grind (arith, common_steps)
