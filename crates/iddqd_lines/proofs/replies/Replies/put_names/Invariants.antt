use Rattle.std.proofs.Common.{take, Ok}
use Rattle.std.specs.List.{flat_map}
use Rattle.iddqd_lines.specs.Replies.{Sends, spaced_name}
use Rattle.iddqd_lines.proofs.replies.Replies.put_names.Given as goal

-- the names so far were sent
abbrev pub invariant-loop-name : goal.invariant-loop-name
invariant-loop-name g l = Sends {E = Unit {0}} g.O.Sink l.fn.output l.fn.self (flat_map spaced_name (take l.name-index l.names)) (Ok tt) l.output l.self
