use Rattle.std.proofs.Common.{◌∙◌}
use Rattle.iddqd_by_hash.proofs.HashedItemLemmas.{StandsForOne-query, item_hashing}
use Rattle.iddqd_by_hash.proofs.HashedCountLemmas.{len-held}
use Rattle.iddqd_groups.proofs.FilesLemmas.{AreHits-group, Files-items}
use Rattle.iddqd_groups.proofs.group_query.group_by.Goals as goal

pub returns-clause-hits : goal.returns-clause-hits
returns-clause-hits g c =
    let state = c.args.state.now in
    let key_of = g.E.HashKey.key_of in
    let equal = g.E.HashKey.eq in
    let fed = g.E.HashKey.hash_input in
    let query = c.args.query in
    let test = g.Q.ItemHashQuery.stands_for_item query in
    let hashing = item_hashing key_of equal fed g.S.BuildHasher g.S.Hasher.Hasher state in
    let one =
    StandsForOne-query key_of equal fed g.S.BuildHasher g.S.Hasher.Hasher state
    (g.Q.ItemHashQuery.key_hash_input query) test
    (g.met.Q.ItemHashQuery.same_item_hash query) (g.met.Q.ItemHashQuery.same_item_key query) in
    let m = c.args.table.now.filed in
    AreHits-group (λ (x : g.row.T.Denot). x) hashing c.args.items.now.store m
    (Files-items key_of equal fed g.S.BuildHasher g.S.Hasher.Hasher state c.args.items.now.store m c.requires)
    c.query_hash-hash.result test c.group_of.result.rest (rw c.query_hash-hash.ensures one) c.group_of.ensures.group

pub returns-clause-bound : goal.returns-clause-bound
returns-clause-bound g c =
    c.group_of.ensures.bound ∙ len-held c.args.items.now.store c.args.table.now.filed c.requires.held
