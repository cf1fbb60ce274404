use Rattle.std.proofs.Common.{◌≡◌, ◌≤◌, [], All, vec_len, vec_capacity}
use Rattle.iddqd_order.specs.MapBTreeTable.{order_of}
use Rattle.iddqd_layer.proofs.ordered_keys.new_ordered.Given as goal

abbrev pub invariant-loop-i : goal.invariant-loop-i
invariant-loop-i l = record {
  count : vec_len l.tables ≡ l.i;
  room : l.count ≤ vec_capacity l.tables;
  empty : All (λ t. order_of t ≡ []) l.tables.items;
}
