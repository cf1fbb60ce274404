use Rattle.std.proofs.Common.{◌≡◌, length}
use Rattle.std.specs.FinMap as finite
use Rattle.iddqd_hash.specs.HashTable.{entries}
use Rattle.iddqd_hash.specs.MapHashTable.{filed, filed_from}
use Rattle.iddqd_hash.proofs.MapHashTableLemmas.{len_filed}
use Rattle.iddqd_hash.proofs.hash_table.MapHashTable.capacity.Goals as goal

pub returns-clause-room : goal.returns-clause-room
unfolding filed
returns-clause-room c =
    let long : length (entries c.self.inside.table) ≡ finite.len (filed_from (entries c.self.inside.table)) =
    len_filed _ c.self.invariant in
    rw (← c.self.view_is, ← long) c.capacity.ensures
