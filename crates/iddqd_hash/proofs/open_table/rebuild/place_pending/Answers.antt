use Rattle.std.proofs.Common.{◌∙◌, sym, arith}
use Rattle.iddqd_hash.proofs.OpenCellLemmas.{cells_long}
use Rattle.std.proofs.lemmas.List.{length-set}
use Rattle.iddqd_hash.specs.OpenTable.{slots_of}
use Rattle.iddqd_hash.proofs.OpenRebuildLemmas.{Carrying-start, Carrying-room, Carrying-next, Carrying-free, IsPartlyPlaced-end, moved-end, not_pending-end, none_new-end}
use Rattle.iddqd_hash.proofs.open_table.rebuild.place_pending.Goals as goal

pub free_place-place-requires-clause-ends : goal.free_place-place-requires-clause-ends
free_place-place-requires-clause-ends g c =
    let carrying =
    Carrying-start c.args.tags.now (slots_of g.C.Cell.slot c.args.tags.now c.args.cells.now) c.args.at _ c.requires.partly_placed c.requires.inside c.requires.pending c.take-hash.ensures.pair in
    rw c.take-hash.ensures.tags (Carrying-room _ _ _ _ _ _ _ carrying (rw length-set c.requires.fits))

pub placing-init : goal.placing-init
placing-init g c = record {
  carrying =
      rw (c.take-hash.ensures.slots, c.take-hash.ensures.tags) (Carrying-start c.args.tags.now (slots_of g.C.Cell.slot c.args.tags.now c.args.cells.now) c.args.at _ c.requires.partly_placed c.requires.inside c.requires.pending c.take-hash.ensures.pair);
  free = c.free_place-place.ensures.free;
  past_full = c.free_place-place.ensures.past_full;
}

pub free_place-place-requires-in-placing-clause-ends : goal.free_place-place-requires-in-placing-clause-ends
free_place-place-requires-in-placing-clause-ends g c =
    let next =
    Carrying-next _ _ _ _ _ _ _ c.placing.invariant.carrying c.placing.place c.replace_pair.result c.placing.invariant.free.within c.placing-test.true c.placing.invariant.past_full c.replace_pair.ensures.pair in
    rw c.replace_pair.ensures.tags (Carrying-room _ _ _ _ _ _ _ next (rw (length-set, c.placing.auto.tags, c.take-hash.auto.tags) c.requires.fits))

pub placing-preserved : goal.placing-preserved
placing-preserved g c = record {
  carrying =
      rw (c.replace_pair.ensures.slots, c.replace_pair.ensures.tags) (Carrying-next _ _ _ _ _ _ _ c.placing.invariant.carrying c.placing.place c.replace_pair.result c.placing.invariant.free.within c.placing-test.true c.placing.invariant.past_full c.replace_pair.ensures.pair);
  free = c.free_place-place-in-placing.ensures.free;
  past_full = c.free_place-place-in-placing.ensures.past_full;
}

pub put-requires-clause-free : goal.put-requires-clause-free
put-requires-clause-free g c =
    let at = c.placing.invariant in
    Carrying-free _ _ _ _ _ _ _ at.carrying c.placing.place at.free.within at.free.free c.placing-test.false at.past_full

pub returns-clause-moved : goal.returns-clause-moved
returns-clause-moved g c =
    let at = c.placing.invariant in
    rw c.put.ensures.slots (moved-end _ _ _ _ _ _ _ at.carrying c.placing.place at.free.within at.free.free c.placing-test.false at.past_full)

pub returns-clause-partly_placed : goal.returns-clause-partly_placed
returns-clause-partly_placed g c =
    let at = c.placing.invariant in
    rw (c.put.ensures.slots, c.put.ensures.tags) (IsPartlyPlaced-end _ _ _ _ _ _ _ at.carrying c.placing.place at.free.within at.free.free c.placing-test.false at.past_full)

pub returns-clause-not_pending : goal.returns-clause-not_pending
returns-clause-not_pending g c =
    let at = c.placing.invariant in
    rw c.put.ensures.tags (not_pending-end _ _ _ _ _ _ _ at.carrying c.placing.place at.free.within at.free.free c.placing-test.false at.past_full)

pub returns-clause-none_new : goal.returns-clause-none_new
returns-clause-none_new g c =
    let at = c.placing.invariant in
    rw c.put.ensures.tags (none_new-end _ _ _ _ _ _ _ at.carrying c.placing.place at.free.within at.free.free c.placing-test.false at.past_full)

pub take-hash-requires-clause-same_length : goal.take-hash-requires-clause-same_length
take-hash-requires-clause-same_length g c =
    sym (cells_long g.C.Cell.slot c.args.tags.now c.args.cells.now) ∙ c.requires.partly_placed.same_length

pub replace_pair-requires-clause-same_length : goal.replace_pair-requires-clause-same_length
replace_pair-requires-clause-same_length g c =
    omega (arith, cells_long g.C.Cell.slot c.args.tags.now c.args.cells.now, c.requires.partly_placed.same_length, c.take-hash.auto.tags, c.take-hash.auto.cells, c.placing.auto.tags, c.placing.auto.cells)

pub put-requires-clause-same_length : goal.put-requires-clause-same_length
put-requires-clause-same_length g c =
    omega (arith, cells_long g.C.Cell.slot c.args.tags.now c.args.cells.now, c.requires.partly_placed.same_length, c.take-hash.auto.tags, c.take-hash.auto.cells, c.placing.auto.tags, c.placing.auto.cells)

pub free_place-place-requires-in-placing-clause-power : goal.free_place-place-requires-in-placing-clause-power
free_place-place-requires-in-placing-clause-power g c =
    rw (c.replace_pair.auto.tags, c.placing.auto.tags, c.take-hash.auto.tags) c.requires.power
