use Rattle.std.proofs.Common.{◌≡◌, ◌≤◌, All, vec_len, vec_capacity}
use Rattle.std.specs.FinMap as finite
use Rattle.iddqd_hash.specs.MapHashTable.{filed}
use Rattle.iddqd_layer.proofs.hashed_keys.new_hashed.Given as goal

abbrev pub invariant-loop-i : goal.invariant-loop-i
invariant-loop-i l = record {
  count : vec_len l.tables ≡ l.i;
  room : l.count ≤ vec_capacity l.tables;
  empty : All (λ t. filed t ≡ finite.empty) l.tables.items;
}
