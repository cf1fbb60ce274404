use Rattle.std.proofs.Common.{◌≡◌, ◌-◌, length, take}
use Rattle.iddqd_order.specs.Tree.{in_order, inners_in, IsTree}
use Rattle.iddqd_order.proofs.btree_table.retain.cut_off.Given as goal

abbrev pub invariant-loop-i : goal.invariant-loop-i
invariant-loop-i l = record {
  tree : IsTree l.root l.new_height;
  inners : l.reserve.inners ≡ inners_in l.root l.new_height;
  reserved : l.reserve.reserved ≡ l.fn.reserve.reserved;
  items : in_order l.root l.new_height
      ≡ take (length (in_order l.fn.root l.fn.height) - l._i) (in_order l.fn.root l.fn.height);
}
