use Rattle.std.proofs.Common.{Some, None, List, ◌≡◌, ℕ, Bool, refl, rules, Contains}
use Rattle.std.proofs.lemmas.List.Sorted.{Contains-permutation}
use Rattle.std.specs.Fn.{Called}
use Rattle.iddqd_hash.specs.Asks.{CanAsk, Hits, Misses}
use Rattle.iddqd_hash.specs.HashTable.{entries, under}
use Rattle.iddqd_hash.specs.MapHashTable.{indexes_under, filed_from, filed}
use Rattle.iddqd_hash.specs.MapHashTableEntry.{entry_pair}
use Rattle.iddqd_hash.proofs.AskLemmas.{CanAskAgain-by, CanAsk-takes, CanAsk-asked}
use Rattle.iddqd_hash.proofs.MapHashTableLemmas.{under_filed, LooksUp-follows}
use Rattle.iddqd_hash.proofs.hash_table.MapHashTable.find_entry_by_hash.Goals as goal

pub place_of-place-requires-clause-each : goal.place_of-place-requires-clause-each
unfolding filed
place_of-place-requires-clause-each g c = λ x here y is.
    let xs : List ℕ = indexes_under c.args.hash (filed_from (entries c.self.inside.table)) in
    let takes : g.row.F.Denot → ℕ → Type 0 = λ f ix. g.F.FnMut.pre f (ix, tt) in
    let ask : g.row.F.Denot → ℕ → Bool → g.row.F.Denot → Type 0 = λ f ix b f'. Called g.F.FnMut f (ix, tt) b f' in
    rw is (CanAsk-takes takes ask c.args.f xs x (rw c.self.view_is c.requires) (Contains-permutation _ _ x (under_filed _ _ c.self.invariant) here))

pub place_of-place-requires-clause-again : goal.place_of-place-requires-clause-again
unfolding filed
place_of-place-requires-clause-again g c =
    let xs : List ℕ = indexes_under c.args.hash (filed_from (entries c.self.inside.table)) in
    let takes : g.row.F.Denot → ℕ → Type 0 = λ f ix. g.F.FnMut.pre f (ix, tt) in
    let ask : g.row.F.Denot → ℕ → Bool → g.row.F.Denot → Type 0 = λ f ix b f'. Called g.F.FnMut f (ix, tt) b f' in
    let filed_too : (x : ℕ) → Contains (under c.args.hash (entries c.self.inside.table)) x → Contains xs x =
    λ x h. Contains-permutation _ _ x (under_filed _ _ c.self.invariant) h in
    CanAskAgain-by _ _ (λ s. CanAsk takes ask s.0.now xs) _ (λ s x here i y is. rw is (CanAsk-takes takes ask _ xs x i (filed_too x here)))
    (λ s x r t here i called.
    let stepped : ask s.0.now called.shown.now r t.0.now = search rules in
    let at_x : ask s.0.now x r t.0.now = rw called.shows at stepped in
    CanAsk-asked takes ask s.0.now xs x r t.0.now i (filed_too x here) at_x) _ (rw c.self.view_is c.requires)

pub invariant_of-result : goal.invariant_of-result
invariant_of-result g c = record { stands = rw (← c.self.view_is, c.in-Some.ensures.is_pair) refl }

pub returns-in-Some : goal.returns-in-Some
unfolding filed entry_pair
returns-in-Some g c =
    let ask : g.row.F.Denot → ℕ → Bool → g.row.F.Denot → Type 0 = λ f ix b f'. Called g.F.FnMut f (ix, tt) b f' in
    let found = c.in-Some.ensures in
    let hit : Hits ask c.args.f (indexes_under c.args.hash (filed c.args.self.now)) found.value = rw (← c.self.view_is)
    (LooksUp-follows _ ask (λ s f. s.0.now ≡ f) (λ s f x b t r called.
    let stepped : ask s.0.now called.shown.now b t.0.now = search rules in
    (t.0.now, rw (r, called.shows) at stepped, refl)) _ c.args.f _ _ (Some found.value) refl (under_filed _ _ c.self.invariant) found.hit) in
    ((refl, λ w. refl, tt), record { found = record { value = found.value; is_pair = rw (← c.self.view_is) found.is_pair; hit = hit }; missed = tt; table = refl; same_reference = refl; unchanged = tt })

pub returns : goal.returns
unfolding filed
returns g c =
    let ask : g.row.F.Denot → ℕ → Bool → g.row.F.Denot → Type 0 = λ f ix b f'. Called g.F.FnMut f (ix, tt) b f' in
    let miss : Misses ask c.args.f (indexes_under c.args.hash (filed c.args.self.now)) = rw (← c.self.view_is)
    (LooksUp-follows _ ask (λ s f. s.0.now ≡ f) (λ s f x b t r called.
    let stepped : ask s.0.now called.shown.now b t.0.now = search rules in
    (t.0.now, rw (r, called.shows) at stepped, refl)) _ c.args.f _ _ None refl (under_filed _ _ c.self.invariant) c.in-None.ensures) in
    ((refl, λ w. tt, refl), record { found = tt; missed = miss; table = tt; same_reference = tt; unchanged = tt })
