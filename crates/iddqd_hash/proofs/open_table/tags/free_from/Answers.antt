use Rattle.std.proofs.Common.{◌+◌, ◌%◌, ◌≤◌, length, slice_index, arith}
use Rattle.iddqd_hash.specs.OpenRebuild.{IsPastFull}
use Rattle.iddqd_hash.proofs.OpenWalkLemmas.{places_left-next, places_left-on}
use Rattle.iddqd_hash.proofs.OpenPastFullLemmas.{IsReached-past_full, IsPastFull-next, IsPastFull-on}
use Rattle.iddqd_hash.proofs.open_table.tags.free_from.Goals as goal

pub loop-at-preserved : goal.loop-at-preserved
loop-at-preserved c =
    let full : 128 ≤ slice_index c.args.tags.now c.loop-at.at = omega arith in
    IsPastFull-on _ _ _ _ (IsPastFull-next _ _ _ c.loop-at.invariant full) (rw c.next.ensures at c.past_full-at.ensures)

pub loop-at-smaller : goal.loop-at-smaller
loop-at-smaller c =
    let tags = c.args.tags.now in
    let full : 128 ≤ slice_index tags c.loop-at.at = omega arith in
    let on = IsReached-past_full _ _ _ (IsPastFull-next _ _ _ c.loop-at.invariant full) in
    let further : IsPastFull tags ((c.loop-at.at + 1) % length tags) c.past_full-at.result =
    rw c.next.ensures at c.past_full-at.ensures in
    let less = places_left-next _ _ _ c.requires.ends (IsReached-past_full _ _ _ c.loop-at.invariant) (omega arith) in
    let no_more = places_left-on _ _ _ _ on (IsReached-past_full _ _ _ further) c.requires.ends in
    omega (arith, less, no_more)
