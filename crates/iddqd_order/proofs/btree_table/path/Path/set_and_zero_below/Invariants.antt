use Rattle.iddqd_order.proofs.Names.{most_levels}
use Rattle.std.proofs.Common.{◌≡◌, ℕ, ◌<◌, ◌≤◌, length, slice_index}
use Rattle.iddqd_order.proofs.btree_table.path.Path.set_and_zero_below.Given as goal

abbrev pub invariant-loop-l : goal.invariant-loop-l
invariant-loop-l l = record {
  length : length l.self ≡ most_levels;
  below : (m : ℕ) → m < l.l → slice_index l.self m ≡ 0;
  above : (m : ℕ) → l.level ≤ m → slice_index l.self m ≡ slice_index l.fn.self m;
}
