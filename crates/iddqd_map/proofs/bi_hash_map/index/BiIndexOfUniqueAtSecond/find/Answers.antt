use Rattle.std.proofs.Common.{None}
use Rattle.iddqd_by_hash.specs.Hashed.{hashing_of}
use Rattle.iddqd_map.specs.Indexing.{IsKnownHash}
use Rattle.iddqd_map.proofs.HashLemmas.{known_rest}
use Rattle.iddqd_map.proofs.bi_hash_map.index.BiIndexOfUniqueAtSecond.find.Goals as goal

pub returns-clause-known : goal.returns-clause-known
returns-clause-known g c =
    let state = c.args.state.now in
    let first = IsKnownHash g.A.HashKey.key_of
    (hashing_of g.A.HashKey.eq g.A.HashKey.hash_input g.S.BuildHasher g.S.Hasher.Hasher state) in
    let second = IsKnownHash g.B.HashKey.key_of
    (hashing_of g.B.HashKey.eq g.B.HashKey.hash_input g.S.BuildHasher g.S.Hasher.Hasher state) in
    known_rest first second c.args.items.now.store None c.find-found.result.1 (λ item. tt) c.find-found.result.0
    c.find-found.ensures.known
