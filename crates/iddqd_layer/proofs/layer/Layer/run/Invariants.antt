use Rattle.std.specs.Vec.{vec_len, vec_capacity}
use Rattle.std.proofs.Common.{◌≡◌, ◌≤◌, length, take}
use Rattle.iddqd_layer.proofs.RunLemmas.{RunsTo}
use Rattle.iddqd_layer.proofs.layer.Layer.run.Given as goal

-- the calls so far were made, and there is room for a reply to each that is left
abbrev pub invariant-loop-command : goal.invariant-loop-command
invariant-loop-command l = record {
  made : RunsTo l.fn.self (take l.command-index l.commands) l.replies.items l.self;
  pushed : vec_len l.replies ≡ l.command-index;
  room : length l.commands ≤ vec_capacity l.replies;
}
