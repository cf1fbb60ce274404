use Rattle.iddqd_hash.specs.MapHashTable.{filed}
use Rattle.iddqd_by_hash.proofs.HashedItemLemmas.{IsInSync-items, StandsForOne-item, item_hashing}
use Rattle.iddqd_map.proofs.hashed_query.find_item.Goals as goal

pub returns : goal.returns
returns g c =
    let key_of = g.E.HashKey.key_of in
    let equal = g.E.HashKey.eq in
    let fed = g.E.HashKey.hash_input in
    let state = c.args.state.now in
    c.find_same.ensures.as_scan (item_hashing key_of equal fed g.S.BuildHasher g.S.Hasher.Hasher state)
    (StandsForOne-item key_of equal fed g.S.BuildHasher g.S.Hasher.Hasher state g.met.E.HashKey.laws g.met.E.HashKey.respects_eq c.args.item.now c.args.hash c.requires.hash)
    (IsInSync-items key_of equal fed g.S.BuildHasher g.S.Hasher.Hasher state c.args.items.now.store (filed c.args.table.now) c.requires.indexed.in_sync)
