use Rattle.std.proofs.Common.{arith}
use Rattle.std.proofs.lemmas.Grind.{common_steps}
use Rattle.iddqd.specs.Store.{sentinel}
use Rattle.iddqd.proofs.SlotLemmas.{IsSoundWithin-none}
use Rattle.iddqd.proofs.item_set.ItemSet.with_capacity.Goals as goal

pub invariant_of-result : goal.invariant_of-result
invariant_of-result g c = rw c.in_ok-with_capacity.ensures.items (IsSoundWithin-none sentinel (omega arith))

pub returns-clause-contents : goal.returns-clause-contents
returns-clause-contents g c = grind (arith, common_steps)
