use Rattle.std.proofs.Common.{◌∙◌, ap}
use Rattle.iddqd.specs.MapHash.{hash_one}
use Rattle.iddqd_by_hash.specs.Hashed.{Hashing, hashing_of}
use Rattle.iddqd_map.proofs.HashLemmas.{hash_found}
use Rattle.iddqd_map.proofs.by_hash.ByHashOfUniqueAtHere.find.Goals as goal

pub returns-clause-known : goal.returns-clause-known
returns-clause-known g c =
    let state = c.args.state.now in
    let query = c.args.query in
    let hashing : Hashing _ = hashing_of g.E.HashKey.eq g.E.HashKey.hash_input g.S.BuildHasher g.S.Hasher.Hasher state
    in
    hash_found g.E.HashKey.key_of hashing c.args.items.now.store (g.Q.ItemHashQuery.stands_for_item query)
    c.query_hash-hash.result (λ x stands. c.query_hash-hash.ensures ∙ ap
    (hash_one g.S.BuildHasher g.S.Hasher.Hasher state) (g.met.Q.ItemHashQuery.same_item_hash query x stands))
    c.find_under-found.result c.find_under-found.ensures
