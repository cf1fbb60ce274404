use Rattle.std.proofs.Common.{◌<◌, IsSome, length, arith}
use Rattle.iddqd_hash.specs.OpenTable.{slots_of, slot_at}
use Rattle.iddqd_hash.proofs.OpenTableLemmas.{pair_at-table_of}
use Rattle.iddqd_hash.proofs.OpenSlotLemmas.{some_inside, some_is}
use Rattle.iddqd_hash.proofs.OpenLookupLemmas.{tag_read}
use Rattle.iddqd_hash.proofs.open_table.OpenHashTablePairCells.pair_at.Goals as goal

pub pair_at-requires-clause-inside : goal.pair_at-requires-clause-inside
pair_at-requires-clause-inside g c =
    let slots = slots_of g.C.Cell.slot c.self.inside.tags.items c.self.inside.cells.items in
    let some : IsSome (slot_at slots c.args.place) = rw (← c.self.view_is, pair_at-table_of) at c.requires in
    rw c.as_slice.ensures.value (omega (arith, some_inside slots c.args.place some, c.self.invariant.sound.probed.same_length))

pub pair_at-requires-clause-probed : goal.pair_at-requires-clause-probed
pair_at-requires-clause-probed g c =
    rw (c.as_slice.ensures.value, c.as_slice-2.ensures.value) c.self.invariant.sound.probed

pub pair_at-requires-clause-full : goal.pair_at-requires-clause-full
pair_at-requires-clause-full g c =
    let slots = slots_of g.C.Cell.slot c.self.inside.tags.items c.self.inside.cells.items in
    let some : IsSome (slot_at slots c.args.place) = rw (← c.self.view_is, pair_at-table_of) at c.requires in
    let pair = some_is _ some in
    let inside : c.args.place < length c.self.inside.tags.items =
    omega (arith, some_inside slots c.args.place some, c.self.invariant.sound.probed.same_length) in
    rw c.as_slice.ensures.value (omega (arith, tag_read _ slots _ pair.0.0 pair.0.1 inside c.self.invariant.sound.probed pair.1))

pub returns : goal.returns
returns g c =
    rw (← c.self.view_is, pair_at-table_of, ← c.as_slice.ensures.value, ← c.as_slice-2.ensures.value) c.pair_at.ensures
