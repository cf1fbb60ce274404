use Rattle.iddqd_order.proofs.Names.{◌-◌, ◌*◌, ◌+◌, ◌≤◌, length, bound, row_asks, order_of}
use Rattle.iddqd_order.proofs.GuideLemmas.{Guides}
use Rattle.iddqd_order.specs.Stepping.{IsNode, high, low}
use Rattle.iddqd_order.proofs.btree_table.table.MapBTreeTable.find_gap_by_steps.Given as goal

abbrev pub invariant-loop-row : goal.invariant-loop-row
invariant-loop-row g l = record {
  node : IsNode l.self l.node;
  levels : l.node.level ≤ l.initial.node.level;
  asks : row_asks * (l.initial.node.level + 1) ≤ bound (length (order_of l.self));
  led : Guides g.F.FnMut (λ r. r) (order_of l.self) (row_asks * (l.initial.node.level - l.node.level))
      (low l.self l.node) (high l.self l.node) l.fn.asking l.asking;
}

abbrev pub decreases-loop-row : goal.decreases-loop-row
decreases-loop-row g l = l.node.level
