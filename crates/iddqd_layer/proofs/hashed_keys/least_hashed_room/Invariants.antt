use Rattle.std.proofs.Common.{◌≡◌, take}
use Rattle.iddqd_hash.specs.HashTable.{room}
use Rattle.iddqd_layer.specs.Layer.{least_of}
use Rattle.iddqd_layer.proofs.hashed_keys.least_hashed_room.Given as goal

abbrev pub invariant-loop-table : goal.invariant-loop-table
invariant-loop-table l = l.least ≡ least_of room l.start (take l.table-index l.tables)
