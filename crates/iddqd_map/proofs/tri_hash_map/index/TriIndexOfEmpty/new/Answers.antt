use Rattle.iddqd_map.proofs.tri_hash_map.index.TriIndexOfEmpty.new.Goals as goal

pub returns-clause-none : goal.returns-clause-none
returns-clause-none g c = λ state limit. (
  c.new.ensures.none state limit,
  (
    c.new-2.ensures.none state limit,
    c.new-3.ensures.none state limit,
  ),
)
