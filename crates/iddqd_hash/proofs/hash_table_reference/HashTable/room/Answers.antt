use Rattle.std.proofs.Common.{arith}
use Rattle.iddqd_hash.proofs.hash_table_reference.HashTable.room.Goals as goal

pub returns : goal.returns
returns g c = omega (arith, c.capacity.ensures, c.len.ensures)
