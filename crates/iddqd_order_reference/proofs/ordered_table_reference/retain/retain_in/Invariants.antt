use Rattle.std.proofs.Common.{◌≡◌, vec_len, vec_capacity}
use Rattle.iddqd_order.proofs.GatherLemmas.{Gathers}
use Rattle.iddqd_order_reference.proofs.ordered_table_reference.retain.retain_in.Given as goal

abbrev pub invariant-loop-at : goal.invariant-loop-at
invariant-loop-at g l = record {
  gathers : Gathers g.F.FnMut l.fn.f l.fn.items.items l.items.items l.at l.kept l.f;
  len : vec_len l.items ≡ vec_len l.fn.items;
  capacity : vec_capacity l.items ≡ vec_capacity l.fn.items;
}
