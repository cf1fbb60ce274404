use Rattle.iddqd_map.proofs.tri_hash_map.index.TriIndexOfUpkeep.clear.Goals as goal

pub returns-clause-none : goal.returns-clause-none
returns-clause-none g c = λ state limit. (
  c.clear.ensures.none state limit,
  (
    c.clear-2.ensures.none state limit,
    c.clear-3.ensures.none state limit,
  ),
)
