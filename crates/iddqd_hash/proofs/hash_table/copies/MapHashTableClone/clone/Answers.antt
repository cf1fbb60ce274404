use Rattle.std.proofs.Common.{◌∙◌, ap, sym, subst}
use Rattle.iddqd_hash.specs.HashTable.{entries}
use Rattle.iddqd_hash.specs.MapHashTable.{filed, IsDistinctlyFiled}
use Rattle.iddqd_hash.proofs.hash_table.copies.MapHashTableClone.clone.Goals as goal

pub invariant_of-result : goal.invariant_of-result
invariant_of-result c = subst (λ t. IsDistinctlyFiled (entries t)) (sym c.in_ok-copied.ensures) c.self.invariant

pub returns-clause-cases : goal.returns-clause-cases
returns-clause-cases c = ap filed (c.in_ok-copied.ensures ∙ c.self.view_is)

pub returns-clause-same : goal.returns-clause-same
returns-clause-same c = c.in_ok-copied.ensures ∙ c.self.view_is
