use Rattle.std.proofs.Common.{ap}
use Rattle.iddqd_hash.specs.HashTable.{value_of}
use Rattle.iddqd_hash.specs.MapHashTableEntry.{entry_index, entry_pair}
use Rattle.iddqd_hash.proofs.hash_table.OccupiedEntry.get.Goals as goal

pub returns : goal.returns
unfolding entry_index entry_pair
returns c = ap value_of c.hashed_at.ensures
