use Rattle.std.specs.List.{AllZip}
use Rattle.std.specs.Vec.{vec_len, vec_capacity}
use Rattle.std.proofs.Common.{◌≡◌, ◌≤◌, length, take}
use Rattle.iddqd_layer.specs.Layer.{SameFiled}
use Rattle.iddqd_layer.proofs.hashed_keys.copy_hashed.Given as goal

abbrev pub invariant-loop-table : goal.invariant-loop-table
invariant-loop-table l = record {
  clones : AllZip SameFiled (take l.table-index l.tables) l.copies.items;
  pushed : vec_len l.copies ≡ l.table-index;
  room : length l.tables ≤ vec_capacity l.copies;
}
