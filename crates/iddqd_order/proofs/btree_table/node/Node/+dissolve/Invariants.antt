use Rattle.iddqd_order.proofs.Names.{most_children}
use Rattle.std.proofs.Common.{◌≡◌, ◌+◌, ◌-◌, ◌≤◌, All, vec_len, vec_capacity}
use Rattle.iddqd_order.specs.Node.{children}
use Rattle.iddqd_order.specs.Removal.{IsChild, inners_of}
use Rattle.iddqd_order.proofs.btree_table.node.Node.+dissolve.Given as goal

abbrev pub decreases-dissolve : goal.decreases-dissolve
decreases-dissolve l = l.height

abbrev pub invariant-loop-child : goal.invariant-loop-child
invariant-loop-child l = record {
  room : most_children ≤ vec_capacity l.children;
  formed : All (IsChild (l.height - 1)) l.children.items;
  counted : inners_of (l.height - 1) l.children.items + 1 ≤ l.reserve.inners;
  given : l.reserve.inners + inners_of (l.height - 1) (children l.fn.self)
      ≡ l.fn.reserve.inners + inners_of (l.height - 1) l.children.items;
  reserved : l.reserve.reserved ≡ l.fn.reserve.reserved;
}

abbrev pub decreases-loop-child : goal.decreases-loop-child
decreases-loop-child l = vec_len l.children
