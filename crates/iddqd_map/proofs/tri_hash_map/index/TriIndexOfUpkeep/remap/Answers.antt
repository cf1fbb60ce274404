use Rattle.iddqd_map.proofs.tri_hash_map.index.TriIndexOfUpkeep.remap.Goals as goal

pub returns-clause-indexed : goal.returns-clause-indexed
returns-clause-indexed g c = λ state s is valid names. (
  c.remap.ensures.indexed state s is.0 valid names,
  (
    c.remap-2.ensures.indexed state s is.1.0 valid names,
    c.remap-3.ensures.indexed state s is.1.1 valid names,
  ),
)
