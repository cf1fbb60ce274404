use Rattle.std.proofs.Common.{◌∙◌, ◌<◌, IsSome, true, length, sym, ap, subst, arith}
use Rattle.iddqd_hash.specs.OpenTable.{slots_of, slot_at}
use Rattle.iddqd_hash.proofs.OpenCellLemmas.{cells_long, pair_there}
use Rattle.iddqd_hash.proofs.OpenSlotLemmas.{full_slot}
use Rattle.iddqd_hash.proofs.open_table.cells.pair_at.Goals as goal

pub offset_bounds-cells-place : goal.offset_bounds-cells-place
offset_bounds-cells-place g c =
    omega (arith, c.requires.probed.same_length, cells_long g.C.Cell.slot c.args.tags.now c.args.cells.now)

pub bounds-cells-place : goal.bounds-cells-place
bounds-cells-place g c =
    omega (arith, c.requires.probed.same_length, cells_long g.C.Cell.slot c.args.tags.now c.args.cells.now)

pub pair-requires : goal.pair-requires
pair-requires g c =
    let slots = slots_of g.C.Cell.slot c.args.tags.now c.args.cells.now in
    let tags = c.args.tags.now in
    let cells = c.args.cells.now in
    let inside : c.args.place < length cells =
    omega (arith, c.requires.probed.same_length, cells_long g.C.Cell.slot tags cells) in
    let read =
    pair_there g.C.Cell.slot tags cells c.args.place c.index-cells-place.result inside (omega (arith, c.requires.full))
    ∙ ap (g.C.Cell.slot true) (sym c.index-cells-place.is) in
    subst (λ o. IsSome o) read (full_slot _ (slot_at slots c.args.place) (c.requires.probed.suited c.args.place c.requires.inside) c.requires.full)

pub returns : goal.returns
returns g c =
    let tags = c.args.tags.now in
    let cells = c.args.cells.now in
    let inside : c.args.place < length cells =
    omega (arith, c.requires.probed.same_length, cells_long g.C.Cell.slot tags cells) in
    pair_there g.C.Cell.slot tags cells c.args.place c.index-cells-place.result inside (omega (arith, c.requires.full))
    ∙ ap (g.C.Cell.slot true) (sym c.index-cells-place.is) ∙ c.pair.ensures
