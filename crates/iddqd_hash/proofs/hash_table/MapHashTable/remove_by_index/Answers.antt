use Rattle.std.proofs.Common.{rules, ◌≡◌, ◌==◌, ℕ, not, IsSome, refl, arith}
use Rattle.std.specs.FinMap as finite
use Rattle.iddqd_hash.specs.HashTable.{entries}
use Rattle.iddqd_hash.specs.MapHashTable.{filed, filed_from}
use Rattle.iddqd_hash.proofs.AskLemmas.{CanAsk-everywhere}
use Rattle.iddqd_hash.proofs.MapHashTableLemmas.{distinct_kept, removed_len}
use Rattle.iddqd_hash.proofs.RetainLemmas.{RetainsPairs-tested}
use Rattle.iddqd_hash.proofs.hash_table.MapHashTable.remove_by_index.Goals as goal

pub retain_asked-requires-clause-each : goal.retain_asked-requires-clause-each
retain_asked-requires-clause-each c = λ x here. search rules

pub retain_asked-requires-clause-again : goal.retain_asked-requires-clause-again
retain_asked-requires-clause-again c = λ x b f here called. CanAsk-everywhere _ _ f _ (λ s x. search rules)

pub invariant_of-self : goal.invariant_of-self
invariant_of-self c =
    let test = λ (x : ℕ). not (x == c.args.ix) in
    let kept =
    RetainsPairs-tested _ (λ s. s.0.now ≡ c.args.ix) test (λ s x b t i called. search rules) _ _ _ refl c.retain_asked.ensures.kept in
    (distinct_kept c.args.ix _ _ kept c.self.invariant).0

pub returns-clause-removed : goal.returns-clause-removed
unfolding filed
returns-clause-removed c =
    let test = λ (x : ℕ). not (x == c.args.ix) in
    let kept =
    RetainsPairs-tested _ (λ s. s.0.now ≡ c.args.ix) test (λ s x b t i called. search rules) _ _ _ refl c.retain_asked.ensures.kept in
    rw (← c.self.view_is) (distinct_kept c.args.ix _ _ kept c.self.invariant).1

pub returns-clause-room : goal.returns-clause-room
unfolding filed
returns-clause-room c =
    let test = λ (x : ℕ). not (x == c.args.ix) in
    let kept =
    RetainsPairs-tested _ (λ s. s.0.now ≡ c.args.ix) test (λ s x b t i called. search rules) _ _ _ refl c.retain_asked.ensures.kept in
    let both = distinct_kept c.args.ix _ _ kept c.self.invariant in
    let here : IsSome (finite.get (filed_from (entries c.self.inside.table)) c.args.ix) =
    rw (← c.self.view_is) at c.requires in
    let fewer = removed_len _ _ c.args.ix c.self.invariant both.0 both.1 here in
    rw (← c.self.view_is) (omega (arith, fewer, c.retain_asked.ensures.memory.same_capacity))
