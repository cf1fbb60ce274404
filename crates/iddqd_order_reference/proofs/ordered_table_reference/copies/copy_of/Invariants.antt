use Rattle.std.proofs.Common.{◌≡◌, length, take, vec_len, vec_capacity}
use Rattle.iddqd_order_reference.proofs.ordered_table_reference.copies.copy_of.Given as goal

abbrev pub invariant-loop-ix : goal.invariant-loop-ix
invariant-loop-ix l = record {
  items : l.copy.items ≡ take l.ix-index l.items;
  pushed : vec_len l.copy ≡ l.ix-index;
  exact : vec_capacity l.copy ≡ length l.items;
}
