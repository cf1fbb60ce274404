use Rattle.std.proofs.Common.{◌≡◌, take}
use Rattle.iddqd_order.specs.MapBTreeTable.{room}
use Rattle.iddqd_layer.specs.Layer.{least_of}
use Rattle.iddqd_layer.proofs.ordered_keys.least_ordered_room.Given as goal

abbrev pub invariant-loop-table : goal.invariant-loop-table
invariant-loop-table l = l.least ≡ least_of room l.start (take l.table-index l.tables)
