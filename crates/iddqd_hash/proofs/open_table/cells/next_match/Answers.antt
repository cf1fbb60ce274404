use Rattle.std.proofs.Common.{◌≢◌, ◌∙◌, ◌+◌, ◌%◌, ◌<◌, ◌≤◌, Some, length, slice_index, sym, arith}
use Rattle.iddqd_hash.specs.OpenTable.{slots_of, slot_at, Skips}
use Rattle.iddqd_hash.proofs.OpenWalkLemmas.{places_left, places_left-next, places_left-on, IsReached-next}
use Rattle.iddqd_hash.proofs.OpenSkipLemmas.{IsReached-skips, PassesBy-skips}
use Rattle.iddqd_hash.proofs.OpenLookupLemmas.{PassesBy-start, PassesBy-next, PassesBy-inside, full_read, hash_read, tag_read}
use Rattle.iddqd_hash.proofs.open_table.cells.next_match.Goals as goal
use Rattle.iddqd_hash.proofs.open_table.cells.next_match.Goals.{else-tags-at-via-then-tags-at+else-pair_at-hash, else-tags-at-via-else-tags-at}

pub loop-at-init : goal.loop-at-init
loop-at-init g c =
    let skipped = rw c.tag_of-tag.ensures at c.past_others-at.ensures in
    PassesBy-skips _ _ _ _ _ _ c.requires.probed (omega arith) (PassesBy-start _ _ _ _ c.requires.inside) skipped

pub returns-then-pair_at-hash : goal.returns-then-pair_at-hash
returns-then-pair_at-hash g c =
    (c.loop-at.invariant, full_read (slots_of g.C.Cell.slot c.args.tags.now c.args.cells.now) c.loop-at.at _ _ c.pair_at.ensures _ c.if-pair_at-hash.true)

pub loop-at-smaller : goal.loop-at-smaller
loop-at-smaller g c =
    let tags = c.args.tags.now in
    let next = (c.loop-at.at + 1) % length tags in
    let used : 0 < slice_index tags c.loop-at.at = omega arith in
    let walk = c.loop-at.invariant.walk in
    let further : Skips tags c.tag_of-tag.result next c.past_others-at-in-loop-at.result =
    rw c.next.ensures at c.past_others-at-in-loop-at.ensures in
    let less : places_left (length tags) c.args.from next < places_left (length tags) c.args.from c.loop-at.at =
    places_left-next tags c.args.from c.loop-at.at c.requires.ends walk used in
    let no_more : places_left (length tags) c.args.from c.past_others-at-in-loop-at.result ≤ places_left (length tags) c.args.from next =
    places_left-on tags c.args.from next _ (IsReached-next tags c.args.from c.loop-at.at walk used) (IsReached-skips _ _ _ _ further) c.requires.ends in
    omega arith

pub loop-at-preserved : goal.loop-at-preserved
loop-at-preserved g c =
    let inside : c.loop-at.at < length c.args.tags.now = PassesBy-inside _ _ _ _ _ (omega arith) c.loop-at.invariant in
    let used : 0 < slice_index c.args.tags.now c.loop-at.at = omega arith in
    let other : (value : g.row.T.Denot) → slot_at (slots_of g.C.Cell.slot c.args.tags.now c.args.cells.now) c.loop-at.at ≢ Some (c.args.hash, value) =
    λ value is.
    elim c.else-tags-at.branch [
      | else-tags-at-via-then-tags-at+else-pair_at-hash w ↦
          w.if-pair_at-hash.false (hash_read (slots_of g.C.Cell.slot c.args.tags.now c.args.cells.now) c.loop-at.at _ _ w.pair_at.ensures c.args.hash value is)
      | else-tags-at-via-else-tags-at w ↦
          w.if-tags-at.false (tag_read c.args.tags.now (slots_of g.C.Cell.slot c.args.tags.now c.args.cells.now) c.loop-at.at c.args.hash value inside c.requires.probed is ∙ sym c.tag_of-tag.ensures)
    ] in
    let skipped = rw (c.tag_of-tag.ensures, c.next.ensures) at c.past_others-at-in-loop-at.ensures in
    PassesBy-skips _ _ _ _ _ _ c.requires.probed (omega arith) (PassesBy-next _ _ _ _ _ c.loop-at.invariant used other) skipped

pub returns : goal.returns
returns g c = (c.loop-at.at, c.loop-at.invariant, c.loop-at-test.false)

pub bounds-tags-at : goal.bounds-tags-at
bounds-tags-at g c = PassesBy-inside _ _ _ _ _ (omega arith) c.loop-at.invariant
