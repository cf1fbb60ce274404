use Rattle.iddqd_map.proofs.bi_hash_map.index.BiIndexOfUpkeep.clear.Goals as goal

pub returns-clause-none : goal.returns-clause-none
returns-clause-none g c = λ state limit. (
  c.clear.ensures.none state limit,
  c.clear-2.ensures.none state limit,
)
