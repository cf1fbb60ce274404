use Rattle.std.proofs.Common.{◌≡◌, ◌+◌, ℕ, ◌<◌, ◌≤◌, length, slice_index}
use Rattle.iddqd_order.proofs.Names.{most_in_row}
use Rattle.iddqd_order.proofs.btree_table.row.move_down.Given as goal

abbrev pub invariant-loop-i : goal.invariant-loop-i
invariant-loop-i l = record {
  all : length l.items ≡ most_in_row;
  all_were : length l.was ≡ most_in_row;
  below : (k : ℕ) → k < l.at → slice_index l.items k ≡ slice_index l.was k;
  above : (k : ℕ) → l.at ≤ k → k + 1 < l.i → slice_index l.items k ≡ slice_index l.was (k + 1);
}
