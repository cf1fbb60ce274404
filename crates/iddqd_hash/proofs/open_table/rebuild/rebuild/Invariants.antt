use Rattle.std.proofs.Common.{◌≢◌, ◌<◌, ℕ, slice_index}
use Rattle.std.specs.List.Sorted.{IsPermutation}
use Rattle.iddqd_hash.specs.OpenTable.{slots_of, pairs}
use Rattle.iddqd_hash.specs.OpenRebuild.{pending, IsPartlyPlaced}
use Rattle.iddqd_hash.proofs.open_table.rebuild.rebuild.Given as goal

abbrev pub invariant-loop-at : goal.invariant-loop-at
invariant-loop-at g l = record {
  partly_placed : IsPartlyPlaced l.tags (slots_of g.C.Cell.slot l.tags l.cells);
  moved : IsPermutation (pairs (slots_of g.C.Cell.slot l.fn.tags l.fn.cells))
      (pairs (slots_of g.C.Cell.slot l.tags l.cells));
  not_pending : (k : ℕ) → k < l.at → slice_index l.tags k ≢ pending;
}
