use Rattle.std.proofs.Common.{arith}
use Rattle.iddqd_hash.proofs.CellLemmas.{entries-listed, room-listed}
use Rattle.iddqd_hash.proofs.hash_table_reference.HashTable.capacity.Goals as goal

pub returns : goal.returns
returns g c = rw (← c.self.view_is, entries-listed, room-listed) (omega arith)
