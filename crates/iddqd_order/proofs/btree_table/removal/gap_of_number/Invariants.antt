use Rattle.std.proofs.Common.{◌≡◌, ◌+◌, ◌<◌, length}
use Rattle.iddqd_order.proofs.Names.{gaps_before}
use Rattle.iddqd_order.proofs.btree_table.removal.gap_of_number.Given as goal

abbrev pub invariant-loop-place : goal.invariant-loop-place
invariant-loop-place l = record {
  here : l.at < length l.children;
  counted : gaps_before l.at l.children + l.place ≡ l.number;
}

abbrev pub decreases-loop-place : goal.decreases-loop-place
decreases-loop-place l = l.place
