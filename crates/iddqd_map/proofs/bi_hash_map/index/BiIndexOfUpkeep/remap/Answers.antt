use Rattle.iddqd_map.proofs.bi_hash_map.index.BiIndexOfUpkeep.remap.Goals as goal

pub returns-clause-indexed : goal.returns-clause-indexed
returns-clause-indexed g c = λ state s is valid names. (
  c.remap.ensures.indexed state s is.0 valid names,
  c.remap-2.ensures.indexed state s is.1 valid names,
)
