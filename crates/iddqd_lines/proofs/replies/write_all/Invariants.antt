use Rattle.std.proofs.Common.{length, ◌-◌, [], Ok, take, ◌≤◌}
use Rattle.iddqd_lines.specs.Replies.{Sends}
use Rattle.iddqd_lines.proofs.replies.write_all.Given as goal

-- the bytes so far went out
abbrev pub invariant-loop-at : goal.invariant-loop-at
invariant-loop-at g l = record {
  within : l.at ≤ length l.bytes;
  sends : Sends {E = Unit {0}} g.O.Sink l.fn.output [] (take l.at l.bytes) (Ok tt) l.output [];
}

abbrev pub decreases-loop-at : goal.decreases-loop-at
decreases-loop-at g l = length l.bytes - l.at
