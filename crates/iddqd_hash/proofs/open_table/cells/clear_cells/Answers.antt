use Rattle.std.proofs.Common.{◌∙◌, ◌+◌, ◌<◌, ◌∷◌, ◌++◌, [], None, length, replicate, take, sym, ap, arith}
use Rattle.std.proofs.lemmas.Grind.{common_steps}
use Rattle.std.proofs.lemmas.List.{take_more_set, take_all, replicate_more}
use Rattle.iddqd_hash.specs.OpenTable.{slots_of}
use Rattle.iddqd_hash.proofs.OpenCellLemmas.{cells_long, slots-emptied}
use Rattle.iddqd_hash.proofs.open_table.cells.clear_cells.Goals as goal

pub loop-at-preserved : goal.loop-at-preserved
loop-at-preserved g c =
    let n = length c.args.cells.now in
    let at = c.loop-at.at in
    let slots = slots_of g.C.Cell.slot (replicate n 0) c.loop-at.cells in
    let inside : at < length slots =
    omega (arith, cells_long g.C.Cell.slot (replicate n 0) c.loop-at.cells, c.loop-at.auto.cells) in
    ap (take (at + 1)) (slots-emptied g.C.Cell.slot n c.loop-at.cells at _ c.clear.ensures)
    ∙ take_more_set slots at None inside
    ∙ ap (λ xs. xs ++ None ∷ []) c.loop-at.invariant ∙ replicate_more at None

pub returns : goal.returns
returns g c =
    let n = length c.args.cells.now in
    let slots = slots_of g.C.Cell.slot (replicate n 0) c.loop-at.cells in
    sym (take_all c.loop-at.at slots (omega (arith, cells_long g.C.Cell.slot (replicate n 0) c.loop-at.cells, c.loop-at.auto.cells)))
    ∙ c.loop-at.invariant ∙ ap (λ n. replicate n None) (omega arith)

pub offset_bounds-cells-at : goal.offset_bounds-cells-at
offset_bounds-cells-at g c = grind (arith, common_steps)
