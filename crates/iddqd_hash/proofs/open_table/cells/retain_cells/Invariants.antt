use Rattle.std.specs.Fn.{TakesAt, CalledAt}
use Rattle.iddqd_hash.specs.OpenTable.{slots_of}
use Rattle.iddqd_hash.proofs.OpenVisitLemmas.{Retaining}
use Rattle.iddqd_hash.proofs.open_table.cells.retain_cells.Given as goal

abbrev pub invariant-asking : goal.invariant-asking
invariant-asking g l =
    Retaining (TakesAt g.F.FnMut) (CalledAt g.F.FnMut) l.fn.f l.fn.tags (slots_of g.C.Cell.slot l.fn.tags l.fn.cells) l.f l.tags (slots_of g.C.Cell.slot l.tags l.cells) l.places.at l.places.end l.places.mask l.removed l.left

abbrev pub decreases-asking : goal.decreases-asking
decreases-asking g l = l.left
