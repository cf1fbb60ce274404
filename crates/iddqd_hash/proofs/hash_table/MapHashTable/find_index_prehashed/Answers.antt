use Rattle.std.proofs.Common.{◌≡◌, refl, rules, Contains}
use Rattle.std.proofs.lemmas.List.Sorted.{Contains-permutation}
use Rattle.iddqd_hash.specs.HashTable.{entries, under}
use Rattle.iddqd_hash.specs.MapHashTable.{AsksKey, indexes_under, filed, filed_from}
use Rattle.iddqd_hash.proofs.AskLemmas.{CanAskAgain-by}
use Rattle.iddqd_hash.proofs.MapHashTableLemmas.{under_filed, LooksUp-follows}
use Rattle.iddqd_hash.proofs.hash_table.MapHashTable.find_index_prehashed.Goals as goal

pub find_asked-requires-clause-each : goal.find_asked-requires-clause-each
unfolding filed
find_asked-requires-clause-each g c = λ x here y is.
    let filed : Contains (indexes_under c.hash.result (filed_from (entries c.self.inside.table))) x =
    Contains-permutation _ _ x (under_filed _ _ c.self.invariant) here in
    rw is (c.requires x (rw (← c.hash.ensures, ← c.self.view_is) filed))

pub find_asked-requires-clause-again : goal.find_asked-requires-clause-again
unfolding filed
find_asked-requires-clause-again g c =
    CanAskAgain-by _ _ (λ s. s.1.now ≡ c.args.lookup) _ (λ s x here i y is.
    let under_hash : Contains (under c.hash.result (entries c.self.inside.table)) x = here in
    let filed : Contains (indexes_under c.hash.result (filed_from (entries c.self.inside.table))) x =
    Contains-permutation _ _ x (under_filed _ _ c.self.invariant) under_hash in
    let may = c.requires x (rw (← c.hash.ensures, ← c.self.view_is) filed) in
    rw (i, is) may) (λ s x r t here i called. search rules) _ refl

pub returns : goal.returns
unfolding filed
returns g c =
    let asks = AsksKey g.F.Fn g.Q.Equivalent.equivalent c.args.lookup c.args.query.now in
    rw (← c.self.view_is, ← c.hash.ensures, c.copied.ensures) (
    LooksUp-follows _ asks (λ s k. (s.0.now ≡ c.args.query.now) × (s.1.now ≡ c.args.lookup)) (λ s k x b t r called.
    let said : (key : g.row.K.Denot) × g.F.Fn.post s.1.now (called.shown.now, tt) key × (b ≡ g.Q.Equivalent.equivalent s.0.now key) =
    search rules in
    let same = rw (r.0, r.1, called.shows) at said in
    (tt, record { key = same.0; gives = same.1; is = same.2 }, search rules)) _ tt _ _ _ (refl, refl) (under_filed _ _ c.self.invariant) c.find_asked.ensures)
