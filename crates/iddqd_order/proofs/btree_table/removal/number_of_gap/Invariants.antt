use Rattle.std.proofs.Common.{◌≡◌, ◌+◌, ◌*◌, ◌≤◌}
use Rattle.iddqd_order.proofs.Names.{gaps_before, most_children, most_in_row}
use Rattle.iddqd_order.proofs.btree_table.removal.number_of_gap.Given as goal

abbrev pub invariant-loop-i : goal.invariant-loop-i
invariant-loop-i l = record {
  counted : l.gaps ≡ gaps_before l.i l.children + l.place;
  few : l.gaps ≤ most_children * l.i + most_in_row;
}
