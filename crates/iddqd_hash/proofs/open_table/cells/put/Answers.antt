use Rattle.std.proofs.Common.{arith}
use Rattle.std.proofs.lemmas.Grind.{common_steps}
use Rattle.iddqd_hash.proofs.OpenCellLemmas.{none_there, slots-put}
use Rattle.iddqd_hash.proofs.open_table.cells.put.Goals as goal

pub fill-requires : goal.fill-requires
fill-requires g c =
    none_there g.C.Cell.slot g.C.Cell.by_tag c.args.tags.now c.args.cells.now c.args.place _ (omega arith) c.requires.free

pub returns-clause-slots : goal.returns-clause-slots
returns-clause-slots g c =
    slots-put g.C.Cell.slot _ _ _ _ _ _ c.requires.inside (omega (arith, c.tag_of.ensures)) c.fill.ensures

pub offset_bounds-cells-place : goal.offset_bounds-cells-place
offset_bounds-cells-place g c = grind (arith, common_steps)
