use Rattle.iddqd_map.proofs.tri_hash_map.index.TriIndexOfUpkeep.with_capacity.Goals as goal

pub returns-clause-none : goal.returns-clause-none
returns-clause-none g c = λ state limit. (
  c.in_ok-first.ensures.none state limit,
  (
    c.in_ok-second.ensures.none state limit,
    c.in_ok-third.ensures.none state limit,
  ),
)
