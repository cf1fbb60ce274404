use Rattle.std.proofs.Common.{ap}
use Rattle.iddqd_hash.specs.HashTable.{value_of}
use Rattle.iddqd_hash.specs.TableEntry.{entry_value, entry_pair}
use Rattle.iddqd_hash.proofs.table_entry.OccupiedEntry.get.Goals as goal

pub returns : goal.returns
unfolding entry_value entry_pair
returns g c = ap value_of c.pair_at.ensures
