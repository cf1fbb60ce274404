use Rattle.std.proofs.Common.{◌≡◌, refl, rules, Contains}
use Rattle.std.proofs.lemmas.List.Sorted.{Contains-permutation}
use Rattle.iddqd_hash.specs.HashTable.{entries, under}
use Rattle.iddqd_hash.specs.MapHashTable.{AsksKey, indexes_under, filed, filed_from}
use Rattle.iddqd_hash.proofs.AskLemmas.{CanAskAgain-by}
use Rattle.iddqd_hash.proofs.IndexLemmas.{FindsPlace-follows}
use Rattle.iddqd_hash.proofs.MapHashTableLemmas.{under_filed}
use Rattle.iddqd_hash.proofs.hash_table.MapHashTable.place_of_key.Goals as goal

pub place_of-requires-clause-each : goal.place_of-requires-clause-each
unfolding filed
place_of-requires-clause-each g c = λ x here y is.
    let filed : Contains (indexes_under c.args.hash (filed_from (entries c.self.inside.table))) x =
    Contains-permutation _ _ x (under_filed _ _ c.self.invariant) here in
    rw is (c.requires x (rw (← c.self.view_is) filed))

pub place_of-requires-clause-again : goal.place_of-requires-clause-again
unfolding filed
place_of-requires-clause-again g c =
    CanAskAgain-by _ _ (λ s. s.0.now ≡ c.args.lookup) _ (λ s x here i y is.
    let under_hash : Contains (under c.args.hash (entries c.self.inside.table)) x = here in
    let filed : Contains (indexes_under c.args.hash (filed_from (entries c.self.inside.table))) x =
    Contains-permutation _ _ x (under_filed _ _ c.self.invariant) under_hash in
    let may = c.requires x (rw (← c.self.view_is) filed) in
    rw (i, is) may) (λ s x r t here i called. search rules) _ refl

pub returns : goal.returns
unfolding filed
returns g c =
    let asks = AsksKey g.F.Fn (λ k other. g.K.PartialEq.eq other k) c.args.lookup c.args.key.now in
    rw (← c.self.view_is)
    (FindsPlace-follows _ asks (λ s k. (s.0.now ≡ c.args.lookup) × (s.1.now ≡ c.args.key.now)) (λ s k x b t r called.
    let said : (key : g.row.K.Denot) × g.F.Fn.post s.0.now (called.shown.now, tt) key × (b ≡ g.K.PartialEq.eq key s.1.now) =
    search rules in
    let same = rw (r.0, r.1, called.shows) at said in
    (tt, record { key = same.0; gives = same.1; is = same.2 }, search rules)) _ tt _ _ _ _ _ (refl, refl) (under_filed _ _ c.self.invariant) c.place_of.ensures)
