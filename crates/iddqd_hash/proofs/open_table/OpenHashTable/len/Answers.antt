use Rattle.iddqd_hash.proofs.OpenTableLemmas.{entries-table_of}
use Rattle.iddqd_hash.proofs.open_table.OpenHashTable.len.Goals as goal

pub returns : goal.returns
returns g c = rw (← c.self.view_is, entries-table_of) c.self.invariant.sound.counted
