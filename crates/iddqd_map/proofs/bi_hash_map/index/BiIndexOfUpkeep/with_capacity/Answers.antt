use Rattle.iddqd_map.proofs.bi_hash_map.index.BiIndexOfUpkeep.with_capacity.Goals as goal

pub returns-clause-none : goal.returns-clause-none
returns-clause-none g c = λ state limit. (
  c.in_ok-first.ensures.none state limit,
  c.in_ok-second.ensures.none state limit,
)
