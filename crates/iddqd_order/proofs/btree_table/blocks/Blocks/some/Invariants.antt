use Rattle.std.proofs.Common.{◌-◌, ◌≤◌, All, vec_len, vec_capacity}
use Rattle.iddqd_order.specs.Node.{IsSpare}
use Rattle.iddqd_order.proofs.btree_table.blocks.Blocks.some.Given as goal

abbrev pub invariant-loop-alloc : goal.invariant-loop-alloc
invariant-loop-alloc l =
    record {
      spare : All IsSpare l.blocks.items;
      within : vec_len l.blocks ≤ l.count;
      room : l.count ≤ vec_capacity l.blocks;
    }

abbrev pub decreases-loop-alloc : goal.decreases-loop-alloc
decreases-loop-alloc l = l.count - vec_len l.blocks
