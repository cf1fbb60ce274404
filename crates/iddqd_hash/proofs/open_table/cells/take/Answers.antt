use Rattle.std.proofs.Common.{◌∙◌, IsSome, subst, arith}
use Rattle.std.proofs.lemmas.Grind.{common_steps}
use Rattle.iddqd_hash.proofs.OpenCellLemmas.{some_there, slots-taken}
use Rattle.iddqd_hash.proofs.open_table.cells.take.Goals as goal

pub take-requires : goal.take-requires
take-requires g c =
    subst (λ o. IsSome o) (some_there g.C.Cell.slot g.C.Cell.by_tag c.args.tags.now c.args.cells.now c.args.place _ (omega arith) c.requires.some) c.requires.some

pub returns-clause-pair : goal.returns-clause-pair
returns-clause-pair g c =
    some_there g.C.Cell.slot g.C.Cell.by_tag c.args.tags.now c.args.cells.now c.args.place _ (omega arith) c.requires.some
    ∙ c.take.ensures.pair

pub returns-clause-slots : goal.returns-clause-slots
returns-clause-slots g c = slots-taken g.C.Cell.slot _ _ _ _ _ c.requires.inside c.requires.tag c.take.ensures.empty

pub offset_bounds-cells-place : goal.offset_bounds-cells-place
offset_bounds-cells-place g c = grind (arith, common_steps)
