use Rattle.std.proofs.Common.{slice_index, arith}
use Rattle.iddqd_hash.specs.OpenTable.{slots_of}
use Rattle.iddqd_hash.proofs.OpenLookupLemmas.{PassesBy-start, full_read}
use Rattle.iddqd_hash.proofs.OpenSkipLemmas.{PassesBy-skips, stop_empty}
use Rattle.iddqd_hash.proofs.open_table.cells.near_match.Goals as goal

pub returns-then-pair_at-hash : goal.returns-then-pair_at-hash
returns-then-pair_at-hash g c =
    let tags = c.args.tags.now in (
      PassesBy-start tags (slots_of g.C.Cell.slot c.args.tags.now c.args.cells.now) _ _ c.requires.inside,
      full_read (slots_of g.C.Cell.slot c.args.tags.now c.args.cells.now) c.args.from _ _ c.pair_at.ensures _ c.if-pair_at-hash.true,
    )

pub returns-then-tags-near : goal.returns-then-tags-near
returns-then-tags-near g c =
    let tags = c.args.tags.now in
    let skips = rw c.tag_of-tag.ensures at c.in-Some.ensures.skips in
    let walk =
    PassesBy-skips tags (slots_of g.C.Cell.slot c.args.tags.now c.args.cells.now) _ _ _ _ c.requires.probed (omega arith) (PassesBy-start _ _ _ _ c.requires.inside) skips in
    (c.in-Some.near, walk, stop_empty c.tag_of-tag.result (slice_index tags c.in-Some.near) c.in-Some.ensures.stop c.if-tags-near.true)

pub returns-then-pair_at-hash-2 : goal.returns-then-pair_at-hash-2
returns-then-pair_at-hash-2 g c =
    let tags = c.args.tags.now in
    let skips = rw c.tag_of-tag.ensures at c.in-Some.ensures.skips in
    let walk =
    PassesBy-skips tags (slots_of g.C.Cell.slot c.args.tags.now c.args.cells.now) _ _ _ _ c.requires.probed (omega arith) (PassesBy-start _ _ _ _ c.requires.inside) skips in
    (walk, full_read (slots_of g.C.Cell.slot c.args.tags.now c.args.cells.now) c.in-Some.near _ _ c.pair_at-in-Some.ensures _ c.if-pair_at-hash-2.true)
