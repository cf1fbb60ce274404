use Rattle.std.proofs.Common.{◌≡◌, true, Some}
use Rattle.iddqd_driver.specs.Keys.{Keys, keys_of}
use Rattle.iddqd_driver.specs.KeyIndexes.{has, first_key_index}
use Rattle.iddqd_driver.proofs.ValidationLemmas.{AnswersScan-hit, differs-itself}
use Rattle.iddqd_driver.proofs.keyed_items.KeyedItems.is_found1.Given.{Over}
use Rattle.iddqd_driver.proofs.FoundLemmas.{found_alone}
use Rattle.iddqd_driver.proofs.keyed_items.KeyedItems.is_found1.Goals as goal

-- the keys of the items
abbrev keys_in : (g : Over) → Keys g.row.T.Denot g.row.T-Key1.Denot g.row.T-Key2.Denot g.row.S.Denot
keys_in g = keys_of g.T.KeyedItem g.T.Key1.PartialEq.eq g.T.Key1.Hash.hash_input g.T.Key2.Ord.cmp g.S.BuildHasher g.S.Hasher.Hasher

pub returns-then-ne-clause-in_sync : goal.returns-then-ne-clause-in_sync
returns-then-ne-clause-in_sync g c = λ o live.
    let s = c.args.self.now.state in
    let at = c.hash_and_find-hash.result.1 in
    let itself : has (first_key_index (keys_in g)) c.key1.result.now c.args.item.now ≡ true = rw c.key1.ensures (g.met.T.Key1.Eq.laws.refl ((keys_in g).first c.args.item.now)) in
    let found : at ≡ Some c.args.ix = AnswersScan-hit s.store (has (first_key_index (keys_in g)) c.key1.result.now) at c.args.ix (c.hash_and_find-hash.ensures.found.as_scan o) (c.args.item.now, live, itself) in
    absurd (differs-itself at c.args.ix c.ne.result c.ne.ensures c.if-ne.true found)

pub returns-clause-found : goal.returns-clause-found
returns-clause-found g c =
    λ alone.
    let found = rw c.key1.ensures at c.hash_and_find-hash.ensures.found in
    let hash = rw c.key1.ensures at c.hash_and_find-hash.ensures.hash in
    let has = rw (c.key1-2.ensures) at c.has_lesser.ensures.1 in
    found_alone (keys_in g) c.args.self.now.state c.args.ix (g.T.KeyedItem.first_key c.args.item.now) _ _ _ _ hash found c.ne.ensures c.if-ne.false (rw (← c.self.view_is) has) alone
