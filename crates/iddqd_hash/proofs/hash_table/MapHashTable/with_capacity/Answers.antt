use Rattle.std.proofs.Common.{ap}
use Rattle.std.specs.List.{IsDistinct}
use Rattle.iddqd_hash.specs.MapHashTable.{filed, filed_from}
use Rattle.iddqd_hash.proofs.hash_table.MapHashTable.with_capacity.Goals as goal

pub invariant_of-result : goal.invariant_of-result
unfolding IsDistinct
invariant_of-result c = rw c.in_ok-of_cells_with_capacity.ensures.empty tt

pub returns-clause-empty : goal.returns-clause-empty
unfolding filed
returns-clause-empty c = ap filed_from c.in_ok-of_cells_with_capacity.ensures.empty
