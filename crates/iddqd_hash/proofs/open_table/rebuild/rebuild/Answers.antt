use Rattle.std.proofs.Common.{◌≢◌, slice_index, arith}
use borrow.Author.Count.{below_more}
use Rattle.std.proofs.lemmas.List.Sorted.{IsPermutation-refl, IsPermutation-trans, length_permutation}
use Rattle.iddqd_hash.specs.OpenRebuild.{pending}
use Rattle.iddqd_hash.proofs.OpenCellLemmas.{slots-tags}
use Rattle.iddqd_hash.proofs.OpenRebuildLemmas.{IsPartlyPlaced-start, IsPartlyPlaced-counted, IsProbed-rebuilt, reset_keeps}
use Rattle.iddqd_hash.proofs.open_table.rebuild.rebuild.Goals as goal

pub loop-at-init : goal.loop-at-init
loop-at-init g c =
    let kept =
    reset_keeps _ c.reset_tags.new.tags _ c.requires.probed c.reset_tags.ensures.full c.reset_tags.ensures.others in
    let same = slots-tags g.C.Cell.slot c.args.tags.now c.reset_tags.new.tags c.args.cells.now kept in
    record {
      partly_placed =
          rw same (IsPartlyPlaced-start _ _ _ c.requires.probed c.reset_tags.auto.tags c.reset_tags.ensures.full c.reset_tags.ensures.others);
      moved = rw same (IsPermutation-refl _);
      not_pending = λ k below. absurd (omega arith);
    }

pub place_pending-requires-clause-fits : goal.place_pending-requires-clause-fits
place_pending-requires-clause-fits g c =
    omega (arith, length_permutation _ _ c.loop-at.invariant.moved, c.requires.fits)

pub returns-clause-probed : goal.returns-clause-probed
returns-clause-probed g c =
    IsProbed-rebuilt _ _ c.loop-at.at c.loop-at.invariant.partly_placed (omega arith) c.loop-at.invariant.not_pending

pub returns-clause-unmarked : goal.returns-clause-unmarked
returns-clause-unmarked g c = IsPartlyPlaced-counted _ _ c.loop-at.invariant.partly_placed

pub loop-at-preserved : goal.loop-at-preserved
loop-at-preserved g c = record {
  partly_placed = c.place_pending.ensures.partly_placed;
  moved = IsPermutation-trans _ _ _ c.loop-at.invariant.moved c.place_pending.ensures.moved;
  not_pending = below_more (λ k. slice_index c.place_pending.new.tags k ≢ pending) c.loop-at.at
      (λ k below is. c.loop-at.invariant.not_pending k below (c.place_pending.ensures.none_new k is)) c.place_pending.ensures.not_pending;
}
