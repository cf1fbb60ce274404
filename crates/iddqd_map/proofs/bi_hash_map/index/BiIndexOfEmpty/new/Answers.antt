use Rattle.iddqd_map.proofs.bi_hash_map.index.BiIndexOfEmpty.new.Goals as goal

pub returns-clause-none : goal.returns-clause-none
returns-clause-none g c = λ state limit. (
  c.new.ensures.none state limit,
  c.new-2.ensures.none state limit,
)
