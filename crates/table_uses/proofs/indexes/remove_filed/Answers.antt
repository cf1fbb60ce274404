use Rattle.std.proofs.Common.{rules, ◌≡◌, ◌==◌, ◌∙◌, ℕ, true, false, Option, Some, option_map, ap, sym, refl, subst, eqb-true, eq-eqb}
use Rattle.std.specs.Option.{unwrap_or}
use Rattle.std.specs.FinMap as finite
use Rattle.iddqd_hash.specs.MapHashTable.{filed}
use Rattle.iddqd_hash.proofs.AskLemmas.{CanAsk-everywhere}
use Rattle.iddqd_hash.proofs.FiledLemmas.{Hits-filed, Misses-filed}
use Rattle.table_uses.proofs.indexes.remove_filed.Goals as goal

pub find_entry_by_hash-requires : goal.find_entry_by_hash-requires
find_entry_by_hash-requires c = CanAsk-everywhere _ _ _ _ (λ s x. search rules)

pub returns-in-Ok-clause-removed : goal.returns-in-Ok-clause-removed
returns-in-Ok-clause-removed c =
    let test = λ (x : ℕ). x == c.args.ix in
    let found = c.in-Ok.ensures.found in
    let hit = Hits-filed (filed c.args.table.now) c.args.hash _ (λ s. s.0.now ≡ c.args.ix) test (λ s x b t is i called. search rules) _ found.value refl found.hit in
    let is : found.value ≡ c.args.ix = eqb-true _ _ hit.1 in
    let out = c.remove.ensures.removed in
    let same : Some (out.hash, out.ix) ≡ Some (c.args.hash, found.value) = sym out.is_pair ∙ found.is_pair in
    let removed : out.ix ≡ c.args.ix = ap (λ (o : Option (ℕ × ℕ)). unwrap_or (option_map (λ p. p.1) o) 0) same ∙ is in
    let gone = rw (removed, c.in-Ok.ensures.table) at out.others_stay in
    (subst (λ x. finite.get (filed c.args.table.now) x ≡ Some c.args.hash) is hit.0, search (rules, gone))

pub returns-in-Err-clause-missed : goal.returns-in-Err-clause-missed
returns-in-Err-clause-missed c =
    let test = λ (x : ℕ). x == c.args.ix in
    let none = Misses-filed (filed c.args.table.now) c.args.hash _ (λ s. s.0.now ≡ c.args.ix) test (λ s x b t is i called. search rules) _ refl c.in-Err.ensures.missed in
    (λ is. let never : true ≡ false = sym (eq-eqb c.args.ix c.args.ix refl) ∙ none c.args.ix is in cc, search rules)
