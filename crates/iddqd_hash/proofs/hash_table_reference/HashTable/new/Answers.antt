use Rattle.std.proofs.Common.{◌∙◌, arith}
use Rattle.iddqd_hash.proofs.CellLemmas.{entries-listed, HasNoMemory-listed}
use Rattle.iddqd_hash.proofs.hash_table_reference.HashTable.new.Goals as goal

pub returns-clause-empty : goal.returns-clause-empty
returns-clause-empty g c = entries-listed _ _ _ ∙ c.new.ensures.items

pub returns-clause-memory : goal.returns-clause-memory
returns-clause-memory g c = HasNoMemory-listed _ _ _ (omega arith) c.new.ensures.capacity
