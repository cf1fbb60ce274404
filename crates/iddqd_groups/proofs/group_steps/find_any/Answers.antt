use Rattle.std.proofs.Common.{subst}
use Rattle.iddqd_by_hash.proofs.HashedItemLemmas.{StandsForOne-query, item_hashing}
use Rattle.iddqd_hash.proofs.MemberLemmas.{filed_at}
use Rattle.iddqd_groups.specs.HashedGroup.{hits_behind}
use Rattle.iddqd_groups.proofs.FilesLemmas.{AreHits-group, Files-items}
use Rattle.iddqd_groups.proofs.GroupLemmas.{IsGroupOf-under}
use Rattle.iddqd_groups.proofs.StepLemmas.{FindsSome-listed}
use Rattle.iddqd_map.specs.Groups.{AreHits}
use Rattle.iddqd_groups.proofs.group_steps.find_any.Goals as goal
use Rattle.iddqd_groups.proofs.group_steps.find_any.Goals.{After-first_from}

pub first_from-requires-clause-present : goal.first_from-requires-clause-present
first_from-requires-clause-present g c = λ j here. filed_at _ _ ((c.first_under.ensures.each j).0 here)

pub returns-clause-group : goal.returns-clause-group
returns-clause-group g c =
    let state = c.args.state.now in
    let key_of = g.E.HashKey.key_of in
    let equal = g.E.HashKey.eq in
    let fed = g.E.HashKey.hash_input in
    let query = c.args.query in
    let test = g.Q.ItemHashQuery.stands_for_item query in
    let hashing = item_hashing key_of equal fed g.S.BuildHasher g.S.Hasher.Hasher state in
    let one =
    StandsForOne-query key_of equal fed g.S.BuildHasher g.S.Hasher.Hasher state
    (g.Q.ItemHashQuery.key_hash_input query) test
    (g.met.Q.ItemHashQuery.same_item_hash query) (g.met.Q.ItemHashQuery.same_item_key query) in
    let s = c.args.items.now.store in
    let m = c.args.table.now.filed in
    let group = IsGroupOf-under (λ (x : g.row.T.Denot). x) s m c.query_hash-hash.result test _ c.first_under.ensures in
    subst (AreHits s test) c.first_from.ensures
    (AreHits-group (λ (x : g.row.T.Denot). x) hashing s m
    (Files-items key_of equal fed g.S.BuildHasher g.S.Hasher.Hasher state s m c.requires)
    c.query_hash-hash.result test _ (rw c.query_hash-hash.ensures one) group)

pub returns-clause-some : goal.returns-clause-some
returns-clause-some g c =
    let s = c.args.items.now.store in
    let test = g.Q.ItemHashQuery.stands_for_item c.args.query in
    FindsSome-listed s test (hits_behind c.args.table.now s test) c.first_from.result (returns-clause-group g c)
