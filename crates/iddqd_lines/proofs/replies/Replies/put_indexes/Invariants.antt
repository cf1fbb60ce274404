use Rattle.std.proofs.Common.{take, Ok}
use Rattle.std.specs.List.{flat_map}
use Rattle.iddqd_lines.specs.Replies.{Sends, spaced}
use Rattle.iddqd_lines.proofs.replies.Replies.put_indexes.Given as goal

-- the indexes so far were sent
abbrev pub invariant-loop-ix : goal.invariant-loop-ix
invariant-loop-ix g l = Sends {E = Unit {0}} g.O.Sink l.fn.output l.fn.self (flat_map spaced (take l.ix-index l.indexes)) (Ok tt) l.output l.self
