use Rattle.std.proofs.Common.{arith}
use Rattle.iddqd_hash.proofs.CellLemmas.{entries-listed, KeepsMemory-listed}
use Rattle.iddqd_hash.proofs.hash_table_reference.HashTable.retain.Goals as goal

pub retain_pairs-requires : goal.retain_pairs-requires
retain_pairs-requires g c = rw (← c.self.view_is, entries-listed) at c.requires

pub returns-clause-kept : goal.returns-clause-kept
returns-clause-kept g c =
    rw (← c.self.view_is, entries-listed, entries-listed) (record { last = _; kept = c.retain_pairs.ensures.kept })

pub returns-clause-memory : goal.returns-clause-memory
returns-clause-memory g c =
    rw (← c.self.view_is) (KeepsMemory-listed _ _ _ _ _ _ c.retain_pairs.ensures.capacity (omega arith) (omega arith))
