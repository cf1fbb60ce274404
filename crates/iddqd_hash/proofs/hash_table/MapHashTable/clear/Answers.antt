use Rattle.std.proofs.Common.{ap}
use Rattle.std.specs.List.{IsDistinct}
use Rattle.iddqd_hash.specs.MapHashTable.{filed, filed_from}
use Rattle.iddqd_hash.proofs.hash_table.MapHashTable.clear.Goals as goal

pub invariant_of-self : goal.invariant_of-self
unfolding IsDistinct
invariant_of-self c = rw c.clear.ensures.empty tt

pub returns-clause-empty : goal.returns-clause-empty
unfolding filed
returns-clause-empty c = ap filed_from c.clear.ensures.empty
