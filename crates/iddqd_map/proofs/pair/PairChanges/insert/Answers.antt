use Rattle.iddqd_map.specs.PairLaws.{HasNoHit-first, HasNoHit-second}
use Rattle.iddqd_map.proofs.pair.PairChanges.insert.Goals as goal

pub returns-clause-indexed : goal.returns-clause-indexed
returns-clause-indexed g c = λ state s item is valid not_full next none known plan. (
  c.insert.ensures.indexed state s item is.0 valid not_full next (HasNoHit-first g.A.KeyIndex.alike g.B.KeyIndex.alike s item none) known.0 plan.0,
  c.insert-2.ensures.indexed state s item is.1 valid not_full next (HasNoHit-second g.A.KeyIndex.alike g.B.KeyIndex.alike s item none) known.1 plan.1,
)
