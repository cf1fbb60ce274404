use Rattle.iddqd_map.proofs.tri_hash_map.index.TriIndexOfChanges.remove.Goals as goal

pub returns-clause-roomy : goal.returns-clause-roomy
returns-clause-roomy g c = λ plan blocks enough. (
  c.remove.ensures.roomy plan blocks enough,
  (
    c.remove-2.ensures.roomy plan blocks enough,
    c.remove-3.ensures.roomy plan blocks enough,
  ),
)
