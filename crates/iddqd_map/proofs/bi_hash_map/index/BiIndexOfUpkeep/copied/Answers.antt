use Rattle.iddqd_map.proofs.bi_hash_map.index.BiIndexOfUpkeep.copied.Goals as goal

pub returns-clause-contents : goal.returns-clause-contents
returns-clause-contents g c = λ state s is. (
  c.in_ok-first.ensures.contents state s is.0,
  c.in_ok-second.ensures.contents state s is.1,
)
