use Rattle.std.proofs.Common.{◌∙◌, arith}
use Rattle.iddqd_hash.proofs.CellLemmas.{entries-listed, room-listed, KeepsMemory-listed}
use Rattle.iddqd_hash.proofs.hash_table_reference.HashTable.clear.Goals as goal

pub returns-clause-empty : goal.returns-clause-empty
returns-clause-empty g c = entries-listed _ _ _ ∙ c.clear.ensures.items

pub returns-clause-memory : goal.returns-clause-memory
returns-clause-memory g c =
    rw (← c.self.view_is) (KeepsMemory-listed _ _ _ _ _ _ c.clear.ensures.capacity (omega arith) (omega arith))

pub returns-clause-room : goal.returns-clause-room
returns-clause-room g c = rw (← c.self.view_is, entries-listed, room-listed, room-listed) (omega arith)
