use Rattle.std.proofs.Common.{◌∙◌, ◌∷◌, ◌++◌, [], None, ap, arith, ◌≡◌, replicate}
use Rattle.std.proofs.lemmas.List.{replicate_more}
use Rattle.iddqd_hash.proofs.OpenCellLemmas.{slots-empty_push}
use Rattle.iddqd_hash.proofs.open_table.memory.empty_cells.Goals as goal

pub empty-preserved : goal.empty-preserved
empty-preserved g c =
    let so_far = c.empty.invariant in (
      rw c.push_reserved.ensures.items (slots-empty_push g.C.Cell.slot _ _ _ c.empty-in-empty.ensures ∙ ap (λ xs. xs ++ None ∷ []) so_far.0 ∙ replicate_more _ None),
      omega arith,
      omega arith,
    )

pub returns-clause-cells : goal.returns-clause-cells
returns-clause-cells g c =
    let counted : c.empty.counter ≡ c.args.count = omega arith in
    c.empty.invariant.0 ∙ ap (λ n. replicate n None) counted
