use Rattle.std.specs.Vec.{vec_len, vec_capacity}
use Rattle.std.proofs.Common.{◌≡◌, [], length, drop}
use Rattle.iddqd_hash.specs.OpenTable.{slots_of, pairs}
use Rattle.iddqd_hash.specs.OpenWalk.{IsAhead}
use Rattle.iddqd_hash.proofs.CopyLemmas.{Cloning}
use Rattle.iddqd_hash.proofs.open_table.copies.cloned_cells.Given as goal

abbrev pub invariant-cloning : goal.invariant-cloning
invariant-cloning g l = record {
  cloning : Cloning g.T.Clone.is_clone (slots_of g.C.Cell.slot l.tags l.cells)
      (slots_of g.C.Cell.slot l.tags l.copies.items) (slots_of g.C.Cell.slot [] l.copies.items) l.places.at;
  len : vec_len l.copies ≡ length l.cells;
  exact : vec_capacity l.copies ≡ length l.cells;
  ahead : IsAhead l.tags l.places.at l.places.end l.places.mask;
  counted : l.left ≡ length (pairs (drop l.places.at (slots_of g.C.Cell.slot l.tags l.cells)));
}

abbrev pub decreases-cloning : goal.decreases-cloning
decreases-cloning g l = l.left
