use Rattle.std.proofs.Common.{length}
use Rattle.iddqd_hash.specs.OpenTable.{slots_of, PassesBy}
use Rattle.iddqd_hash.proofs.OpenWalkLemmas.{places_left}
use Rattle.iddqd_hash.proofs.open_table.cells.next_match.Given as goal

abbrev pub invariant-loop-at : goal.invariant-loop-at
invariant-loop-at g l = PassesBy l.tags (slots_of g.C.Cell.slot l.tags l.cells) l.hash l.from l.at

abbrev pub decreases-loop-at : goal.decreases-loop-at
decreases-loop-at g l = places_left (length l.tags) l.from l.at
