use Rattle.std.proofs.Common.{◌≡◌, ℕ, Bool, List, Contains, refl, rules}
use Rattle.std.proofs.lemmas.List.Sorted.{Contains-permutation}
use Rattle.std.specs.Fn.{Called}
use Rattle.iddqd_hash.specs.Asks.{CanAsk}
use Rattle.iddqd_hash.specs.HashTable.{entries, values}
use Rattle.iddqd_hash.specs.MapHashTable.{filed, filed_from, indexes_of}
use Rattle.iddqd_hash.proofs.AskLemmas.{CanAskAgain-by, CanAsk-takes, CanAsk-asked}
use Rattle.iddqd_hash.proofs.IndexLemmas.{filed_pairs, filed_indexes, distinct_retained, RetainsPairs-follows}
use Rattle.iddqd_hash.proofs.hash_table.MapHashTable.retain.Goals as goal

pub retain_asked-requires-clause-each : goal.retain_asked-requires-clause-each
unfolding filed
retain_asked-requires-clause-each g c = λ x here y is.
    let xs : List ℕ = indexes_of (filed_from (entries c.self.inside.table)) in
    let takes : g.row.F.Denot → ℕ → Type 0 = λ f ix. g.F.FnMut.pre f (ix, tt) in
    let ask : g.row.F.Denot → ℕ → Bool → g.row.F.Denot → Type 0 = λ f ix b f'. Called g.F.FnMut f (ix, tt) b f' in
    rw is (CanAsk-takes takes ask c.args.f xs x (rw c.self.view_is c.requires) (Contains-permutation _ _ x (filed_indexes _ c.self.invariant) here))

pub retain_asked-requires-clause-again : goal.retain_asked-requires-clause-again
unfolding filed
retain_asked-requires-clause-again g c =
    let xs : List ℕ = indexes_of (filed_from (entries c.self.inside.table)) in
    let takes : g.row.F.Denot → ℕ → Type 0 = λ f ix. g.F.FnMut.pre f (ix, tt) in
    let ask : g.row.F.Denot → ℕ → Bool → g.row.F.Denot → Type 0 = λ f ix b f'. Called g.F.FnMut f (ix, tt) b f' in
    let filed_too : (x : ℕ) → Contains (values (entries c.self.inside.table)) x → Contains xs x =
    λ x h. Contains-permutation _ _ x (filed_indexes _ c.self.invariant) h in
    CanAskAgain-by _ _ (λ s. CanAsk takes ask s.0.now xs) _ (λ s x here i y is. rw is (CanAsk-takes takes ask _ xs x i (filed_too x here)))
    (λ s x r t here i called.
    let stepped : ask s.0.now called.shown.now r t.0.now = search rules in
    let at_x : ask s.0.now x r t.0.now = rw called.shows at stepped in
    CanAsk-asked takes ask s.0.now xs x r t.0.now i (filed_too x here) at_x) _ (rw c.self.view_is c.requires)

pub invariant_of-self : goal.invariant_of-self
invariant_of-self g c = distinct_retained _ _ _ _ c.retain_asked.ensures.kept c.self.invariant

pub returns-clause-kept : goal.returns-clause-kept
unfolding filed
returns-clause-kept g c =
    let ask : g.row.F.Denot → ℕ → Bool → g.row.F.Denot → Type 0 = λ f ix b f'. Called g.F.FnMut f (ix, tt) b f' in
    let apart = distinct_retained _ _ _ _ c.retain_asked.ensures.kept c.self.invariant in
    rw (← c.self.view_is)
    (RetainsPairs-follows _ ask (λ s f. s.0.now ≡ f) (λ s f x b t r called.
    let stepped : ask s.0.now called.shown.now b t.0.now = search rules in
    (t.0.now, rw (r, called.shows) at stepped, refl)) _ c.args.f _ _ _ _ refl (filed_pairs _ c.self.invariant) (filed_pairs _ apart) c.retain_asked.ensures.kept)
