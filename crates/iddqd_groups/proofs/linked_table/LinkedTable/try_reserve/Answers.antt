use Rattle.std.proofs.Common.{arith}
use Rattle.iddqd_groups.proofs.LinkedSizeLemmas.{len-heads}
use Rattle.iddqd_groups.proofs.linked_table.LinkedTable.try_reserve.Goals as goal

pub overflow_sub-needed : goal.overflow_sub-needed
overflow_sub-needed c =
    let holds = rw (← c.self.view_is) at c.capacity.ensures.holds_all in
    omega (arith, holds, c.len.ensures, len-heads c.self.invariant.linked)
