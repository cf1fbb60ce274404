use Rattle.std.proofs.Common.{◌≡◌, ◌+◌, ◌≤◌, ◌++◌, reverse, vec_len, vec_capacity}
use Rattle.iddqd_order.proofs.btree_table.node.move_tail.Given as goal

abbrev pub invariant-loop-to : goal.invariant-loop-to
invariant-loop-to l = (l.at ≤ vec_len l.from) × (l.from.items ++ reverse l.to.items ≡ l.initial.from.items) × (vec_len l.from + vec_len l.to ≡ vec_len l.initial.from) × (vec_capacity l.from ≡ vec_capacity l.initial.from) × (vec_capacity l.to ≡ vec_capacity l.initial.to)

abbrev pub decreases-loop-to : goal.decreases-loop-to
decreases-loop-to l = vec_len l.from
