use Rattle.std.proofs.Common.{◌≤◌, length, vec_len}
use Rattle.iddqd_hash.specs.OpenTable.{slots_of}
use Rattle.iddqd_hash.proofs.OpenMoveLemmas.{Moving}
use Rattle.iddqd_hash.proofs.open_table.cells.move_cells.Given as goal

abbrev pub invariant-moving : goal.invariant-moving
invariant-moving g l = record {
  moving : Moving (slots_of g.C.Cell.slot l.old_tags l.fn.old.items) (slots_of g.C.Cell.slot l.old_tags l.old.items)
      l.tags (slots_of g.C.Cell.slot l.tags l.cells);
  within : vec_len l.old ≤ length l.old_tags;
}

abbrev pub decreases-moving : goal.decreases-moving
decreases-moving g l = vec_len l.old
