use Rattle.iddqd_by_hash.proofs.HashedItemLemmas.{StandsForOne-query, item_hashing}
use Rattle.iddqd_by_hash.specs.Hashed.{passes}
use Rattle.iddqd_map.specs.Groups.{AreHits}
use Rattle.iddqd_groups.specs.HashedGroup.{hits_among}
use Rattle.iddqd_groups.proofs.FilesLemmas.{AreHits-group, Files-items}
use Rattle.iddqd_groups.proofs.GroupLemmas.{IsGroupOf-under, was_there}
use Rattle.iddqd_groups.proofs.group_modify.modify_group.Goals as goal

pub returns-clause-modified : goal.returns-clause-modified
returns-clause-modified g c =
    let state = c.args.state.now in
    let key_of = g.E.HashKey.key_of in
    let equal = g.E.HashKey.eq in
    let fed = g.E.HashKey.hash_input in
    let query = c.args.query in
    let test = g.Q.ItemHashQuery.stands_for_item query in
    let hashing = item_hashing key_of equal fed g.S.BuildHasher g.S.Hasher.Hasher state in
    let one =
    StandsForOne-query key_of equal fed g.S.BuildHasher g.S.Hasher.Hasher state
    (g.Q.ItemHashQuery.key_hash_input query) test
    (g.met.Q.ItemHashQuery.same_item_hash query) (g.met.Q.ItemHashQuery.same_item_key query) in
    let s = c.args.items.now.store in
    let m = c.args.table.now.filed in
    let under = c.indexes_under-indexes.result.rest in
    let hash = c.query_hash-hash.result in
    let files = Files-items key_of equal fed g.S.BuildHasher g.S.Hasher.Hasher state s m c.requires.files in
    let group = IsGroupOf-under (λ (x : g.row.T.Denot). x) s m hash test under c.indexes_under-indexes.ensures.under in
    let hits : AreHits s test (hits_among s test under) =
    AreHits-group (λ (x : g.row.T.Denot). x) hashing s m files hash test (hits_among s test under)
    (rw c.query_hash-hash.ensures one) group in
    let did = c.modify_hits.ensures in
    record {
      indexes = hits_among s test under;
      hits = hits;
      counted = did.counted;
      calls = did.calls;
      each = λ ix was live passed.
          did.each ix was (was_there (passes s test) under ix ((hits.each ix).1 (was, live, passed))).0 live passed;
    }
