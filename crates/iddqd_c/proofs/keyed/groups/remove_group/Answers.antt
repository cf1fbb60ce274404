use Rattle.std.proofs.Common.{rules}
use Rattle.iddqd_c.proofs.keyed.groups.remove_group.Goals as goal

pub returns-in-Unique-clause-removes : goal.returns-in-Unique-clause-removes
returns-in-Unique-clause-removes c =
    let left = rw c.equal.ensures at c.remove_in.ensures.left in
    search rules

pub returns-in-Shared-clause-removes : goal.returns-in-Shared-clause-removes
returns-in-Shared-clause-removes c =
    let left = rw c.equal-in-Shared.ensures at c.remove_in-in-Shared.ensures.left in
    search rules
