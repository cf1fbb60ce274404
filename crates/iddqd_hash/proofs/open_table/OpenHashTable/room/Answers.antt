use Rattle.std.proofs.Common.{◌≡◌, length, arith}
use Rattle.iddqd_hash.specs.HashTable.{entries}
use Rattle.iddqd_hash.proofs.OpenTableLemmas.{entries-table_of}
use Rattle.iddqd_hash.proofs.open_table.OpenHashTable.room.Goals as goal

pub overflow_sub-result : goal.overflow_sub-result
overflow_sub-result g c =
    let counted : c.self.inside.len ≡ length (entries c.args.self.now) =
    rw (← c.self.view_is, entries-table_of) c.self.invariant.sound.counted in
    omega (arith, counted, c.capacity.ensures)

pub returns : goal.returns
returns g c =
    let counted : c.self.inside.len ≡ length (entries c.args.self.now) =
    rw (← c.self.view_is, entries-table_of) c.self.invariant.sound.counted in
    omega (arith, counted, c.capacity.ensures)
