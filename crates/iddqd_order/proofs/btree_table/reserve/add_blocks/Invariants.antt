use Rattle.std.proofs.Common.{◌≡◌, ◌-◌, ◌≤◌, All, vec_len, vec_capacity}
use Rattle.iddqd_order.specs.Node.{IsSpare}
use Rattle.iddqd_order.proofs.btree_table.reserve.add_blocks.Given as goal

abbrev pub invariant-loop-alloc : goal.invariant-loop-alloc
invariant-loop-alloc l = record {
  empty : All IsSpare l.blocks.items;
  from : l.kept ≤ vec_len l.blocks;
  within : vec_len l.blocks ≤ l.wanted;
  capacity : vec_capacity l.blocks ≡ vec_capacity l.initial.blocks;
}

abbrev pub decreases-loop-alloc : goal.decreases-loop-alloc
decreases-loop-alloc l = l.wanted - vec_len l.blocks
