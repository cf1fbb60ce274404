use Rattle.std.specs.Cmp.{partial_equiv_from_equiv}
use Rattle.iddqd_hash.specs.MapHashTable.{filed}
use Rattle.iddqd_by_hash.proofs.FindLemmas.{IsLawful-from_bounds}
use Rattle.iddqd_map.proofs.IndexingLemmas.{Indexes-inserted}
use Rattle.iddqd_map.proofs.by_hash.ByHashOfChanges.insert.Goals as goal

pub returns-clause-indexed : goal.returns-clause-indexed
returns-clause-indexed g c = λ state s item is valid not_full next none known plan.
    let lawful = IsLawful-from_bounds g.E.HashKey.eq g.E.HashKey.hash_input g.S.BuildHasher g.S.Hasher.Hasher state (partial_equiv_from_equiv g.met.E.HashKey.laws) g.met.E.HashKey.respects_eq in
    rw (c.insert_prehashed_unchecked.ensures.added, next, known) (Indexes-inserted _ _ s (filed c.args.self.now.table) is item valid lawful none)
