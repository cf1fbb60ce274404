use Rattle.std.proofs.Common.{◌≡◌, ◌-◌, ◌≤◌, length}
use Rattle.iddqd_order.specs.Node.{row, flat, inners, IsFormed}
use Rattle.iddqd_order.specs.SpotCursor.{IsSpotCursor}
use Rattle.iddqd_order.proofs.GatherLemmas.{Gathers}
use Rattle.iddqd_order.proofs.btree_table.retain.gather.Given as goal

abbrev pub invariant-loop-from : goal.invariant-loop-from
invariant-loop-from g l = record {
  formed : IsFormed l.height l.root;
  some : 1 ≤ length (row l.root);
  inners : inners l.height l.root ≡ inners l.height l.fn.root;
  from : IsSpotCursor l.height l.root l.from;
  to : IsSpotCursor l.height l.root l.to;
  gathers : Gathers g.F.FnMut l.fn.f (flat l.height l.fn.root) (flat l.height l.root) l.from.place l.to.place l.f;
}

abbrev pub decreases-loop-from : goal.decreases-loop-from
decreases-loop-from g l = l.len - l.from.place
