use Rattle.std.proofs.Common.{◌∙◌, IsSome, subst, arith}
use Rattle.std.proofs.lemmas.Grind.{common_steps}
use Rattle.iddqd_hash.proofs.OpenCellLemmas.{some_there, slots-put}
use Rattle.iddqd_hash.proofs.open_table.rebuild.replace_pair.Goals as goal

pub replace-requires : goal.replace-requires
replace-requires g c =
    subst (λ o. IsSome o) (some_there g.C.Cell.slot g.C.Cell.by_tag c.args.tags.now c.args.cells.now c.args.place _ (omega arith) c.requires.some) c.requires.some

pub returns-clause-pair : goal.returns-clause-pair
returns-clause-pair g c =
    some_there g.C.Cell.slot g.C.Cell.by_tag c.args.tags.now c.args.cells.now c.args.place _ (omega arith) c.requires.some
    ∙ c.replace.ensures.before

pub returns-clause-slots : goal.returns-clause-slots
returns-clause-slots g c =
    slots-put g.C.Cell.slot _ _ _ _ _ _ c.requires.inside (omega (arith, c.tag_of.ensures)) c.replace.ensures.after

pub offset_bounds-cells-place : goal.offset_bounds-cells-place
offset_bounds-cells-place g c = grind (arith, common_steps)
