use Rattle.std.specs.Fn.{FnReturnsAt}
use Rattle.iddqd_hash.specs.OpenTable.{slots_of}
use Rattle.iddqd_hash.proofs.OpenVisitLemmas.{Rewritten}
use Rattle.iddqd_hash.proofs.open_table.cells.rewrite_cells.Given as goal

abbrev pub invariant-rewriting : goal.invariant-rewriting
invariant-rewriting g l =
    Rewritten (FnReturnsAt g.F.Fn l.f) l.tags (slots_of g.C.Cell.slot l.tags l.fn.cells) (slots_of g.C.Cell.slot l.tags l.cells) l.places.at l.places.end l.places.mask l.left

abbrev pub decreases-rewriting : goal.decreases-rewriting
decreases-rewriting g l = l.left
