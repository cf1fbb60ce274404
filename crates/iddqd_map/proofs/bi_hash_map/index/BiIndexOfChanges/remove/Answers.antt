use Rattle.iddqd_map.proofs.bi_hash_map.index.BiIndexOfChanges.remove.Goals as goal

pub returns-clause-roomy : goal.returns-clause-roomy
returns-clause-roomy g c = λ plan blocks enough. (
  c.remove.ensures.roomy plan blocks enough,
  c.remove-2.ensures.roomy plan blocks enough,
)
