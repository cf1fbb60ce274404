use Rattle.iddqd_hash.specs.MapHashTable.{filed}
use Rattle.iddqd_by_hash.specs.Hashed.{hashing_of}
use Rattle.iddqd_map.proofs.HashLemmas.{TakesFound-taken}
use Rattle.iddqd_map.proofs.by_hash.ByHashOfTakesAtHere.take.Goals as goal

pub returns-clause-taken : goal.returns-clause-taken
returns-clause-taken g c =
    TakesFound-taken g.E.HashKey.key_of (hashing_of g.E.HashKey.eq g.E.HashKey.hash_input g.S.BuildHasher g.S.Hasher.Hasher) c.args.state.now c.args.items.now.store (filed c.args.self.now.table) (filed c.take_by.new.table) c.requires.indexed (g.Q.ItemHashQuery.stands_for_item c.args.query) c.take_by.result c.take_by.ensures.found c.take_by.ensures.taken
