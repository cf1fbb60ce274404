use Rattle.std.proofs.Common.{length}
use Rattle.std.specs.Fn.{TakesAt, CalledAt}
use Rattle.iddqd_hash.specs.OpenTable.{slots_of}
use Rattle.iddqd_hash.proofs.OpenWalkLemmas.{found_left}
use Rattle.iddqd_hash.proofs.OpenFindLemmas.{Trying}
use Rattle.iddqd_hash.proofs.open_table.cells.find_cell.Given as goal

abbrev pub invariant-loop-found : goal.invariant-loop-found
invariant-loop-found g l =
    Trying (TakesAt g.F.FnMut) (CalledAt g.F.FnMut) l.fn.eq l.tags (slots_of g.C.Cell.slot l.tags l.cells) l.hash l.found l.eq

abbrev pub decreases-loop-found : goal.decreases-loop-found
decreases-loop-found g l = found_left (length l.tags) l.hash l.found
