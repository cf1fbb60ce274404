use Rattle.iddqd_map.proofs.tri_hash_map.index.TriIndexOfUpkeep.copied.Goals as goal

pub returns-clause-contents : goal.returns-clause-contents
returns-clause-contents g c = λ state s is. (
  c.in_ok-first.ensures.contents state s is.0,
  (
    c.in_ok-second.ensures.contents state s is.1.0,
    c.in_ok-third.ensures.contents state s is.1.1,
  ),
)
