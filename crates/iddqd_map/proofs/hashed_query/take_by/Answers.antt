use Rattle.iddqd_hash.specs.MapHashTable.{filed}
use Rattle.iddqd_by_hash.proofs.HashedItemLemmas.{IsInSync-items, StandsForOne-query, item_hashing}
use Rattle.iddqd_map.proofs.hashed_query.take_by.Goals as goal

pub returns-clause-found : goal.returns-clause-found
returns-clause-found g c =
    let key_of = g.E.HashKey.key_of in
    let equal = g.E.HashKey.eq in
    let fed = g.E.HashKey.hash_input in
    let state = c.args.state.now in
    let query = c.args.query in
    let one =
    StandsForOne-query key_of equal fed g.S.BuildHasher g.S.Hasher.Hasher state
    (g.Q.ItemHashQuery.key_hash_input query) (g.Q.ItemHashQuery.stands_for_item query)
    (g.met.Q.ItemHashQuery.same_item_hash query) (g.met.Q.ItemHashQuery.same_item_key query) in
    c.take.ensures.found.as_scan (item_hashing key_of equal fed g.S.BuildHasher g.S.Hasher.Hasher state)
    (rw c.query_hash-hash.ensures one)
    (IsInSync-items key_of equal fed g.S.BuildHasher g.S.Hasher.Hasher state c.args.items.now.store
    (filed c.args.table.now) c.requires.in_sync)
