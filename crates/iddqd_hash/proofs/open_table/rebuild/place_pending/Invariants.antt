use Rattle.std.proofs.Common.{count_by}
use Rattle.iddqd_hash.specs.OpenTable.{slots_of, IsFree}
use Rattle.iddqd_hash.specs.OpenRebuild.{is_pending, IsPastFull}
use Rattle.iddqd_hash.proofs.OpenRebuildLemmas.{Carrying}
use Rattle.iddqd_hash.proofs.open_table.rebuild.place_pending.Given as goal

abbrev pub invariant-placing : goal.invariant-placing
invariant-placing g l = record {
  carrying : Carrying l.fn.tags (slots_of g.C.Cell.slot l.fn.tags l.fn.cells) l.fn.at l.hash l.value l.tags
      (slots_of g.C.Cell.slot l.tags l.cells);
  free : IsFree l.tags l.place;
  past_full : IsPastFull l.tags l.hash l.place;
}

abbrev pub decreases-placing : goal.decreases-placing
decreases-placing g l = count_by is_pending l.tags
