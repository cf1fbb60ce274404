use Rattle.iddqd_map.specs.Map.{shares}
use Rattle.iddqd_map.specs.PairLaws.{HasNoHit-first, HasNoHit-second}
use Rattle.iddqd_map.specs.Several.{either_key}
use Rattle.iddqd_map.proofs.tri_hash_map.index.TriIndexOfChanges.insert.Goals as goal

pub returns-clause-indexed : goal.returns-clause-indexed
returns-clause-indexed g c = λ state s item is valid not_full next none known plan. let first = shares g.A.HashKey.key_of g.A.HashKey.eq in
    let second = shares g.B.HashKey.key_of g.B.HashKey.eq in let third = shares g.C.HashKey.key_of g.C.HashKey.eq in (
      c.insert.ensures.indexed state s item is.0 valid not_full next
          (HasNoHit-first first (either_key second third) s item none) known.0 plan,
      (
        c.insert-2.ensures.indexed state s item is.1.0 valid not_full next
            (HasNoHit-first second third s item (HasNoHit-second first (either_key second third) s item none)) known.1.0 plan,
        c.insert-3.ensures.indexed state s item is.1.1 valid not_full next
            (HasNoHit-second second third s item (HasNoHit-second first (either_key second third) s item none)) known.1.1 plan,
      ),
    )
