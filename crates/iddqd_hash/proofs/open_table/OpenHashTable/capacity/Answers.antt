use Rattle.std.proofs.Common.{arith}
use Rattle.iddqd_hash.proofs.OpenTableLemmas.{capacity-table_of, fits_from}
use Rattle.iddqd_hash.proofs.open_table.OpenHashTable.capacity.Goals as goal

pub returns : goal.returns
returns g c =
    rw (← c.self.view_is, capacity-table_of _ (fits_from _ _ _ _ c.self.invariant.sound), c.self.invariant.sound.probed.same_length) (omega arith)
