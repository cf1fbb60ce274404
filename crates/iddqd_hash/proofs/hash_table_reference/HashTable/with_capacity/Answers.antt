use Rattle.std.proofs.Common.{◌∙◌, arith}
use Rattle.iddqd_hash.proofs.CellLemmas.{entries-listed}
use Rattle.iddqd_hash.proofs.SizeLemmas.{TakesRoom-listed}
use Rattle.iddqd_hash.proofs.hash_table_reference.HashTable.with_capacity.Goals as goal

pub returns-clause-empty : goal.returns-clause-empty
returns-clause-empty g c = entries-listed _ _ _ ∙ c.in_ok-with_capacity.ensures.items

pub returns-clause-memory : goal.returns-clause-memory
returns-clause-memory g c =
    TakesRoom-listed _ _ _ _ (omega (arith, c.in_ok-with_capacity.ensures.exact, c.in_ok-with_capacity.ensures.len)) c.in_ok-with_capacity.ensures.exact
