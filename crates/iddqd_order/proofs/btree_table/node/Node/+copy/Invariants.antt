use Rattle.iddqd_order.proofs.Names.{◌≡◌, ◌-◌, ◌≤◌, length, take, vec_capacity, IsCopy, children, most_children}
use Rattle.std.specs.List.{AllZip}
use Rattle.iddqd_order.proofs.btree_table.node.Node.+copy.Given as goal

abbrev pub decreases-copy : goal.decreases-copy
decreases-copy l = l.height

abbrev pub invariant-loop-i : goal.invariant-loop-i
invariant-loop-i l = record {
  room : most_children ≤ vec_capacity l.children;
  count : length l.children.items ≡ l.i;
  done : AllZip (IsCopy (l.height - 1)) (take l.i (children l.self)) l.children.items;
}
