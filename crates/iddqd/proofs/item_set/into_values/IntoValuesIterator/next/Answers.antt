use Rattle.std.proofs.Common.{arith}
use Rattle.std.proofs.lemmas.Grind.{common_steps}
use Rattle.iddqd.proofs.item_set.into_values.IntoValuesIterator.next.Goals as goal

pub returns-clause-steps : goal.returns-clause-steps
returns-clause-steps g c = grind (arith, common_steps)

pub returns-in-Occupied-clause-goes : goal.returns-in-Occupied-clause-goes
returns-in-Occupied-clause-goes g c = grind (arith, common_steps)

pub returns-in-Occupied-clause-steps : goal.returns-in-Occupied-clause-steps
returns-in-Occupied-clause-steps g c = grind (arith, common_steps)

pub invariant_of-self : goal.invariant_of-self
invariant_of-self g c = grind (arith, common_steps)

pub overflow_sub-self : goal.overflow_sub-self
overflow_sub-self g c = grind (arith, common_steps)
