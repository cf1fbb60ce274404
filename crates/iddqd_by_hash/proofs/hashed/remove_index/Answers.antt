use Rattle.std.proofs.Common.{rules, ◌≡◌, ◌==◌, ◌∙◌, ℕ, Option, Some, option_map, ap, sym, refl, eqb-true}
use Rattle.std.specs.Option.{unwrap_or}
use Rattle.iddqd_hash.specs.MapHashTable.{filed}
use Rattle.iddqd_hash.proofs.AskLemmas.{CanAsk-everywhere}
use Rattle.iddqd_hash.proofs.FiledLemmas.{Hits-filed}
use Rattle.iddqd_by_hash.proofs.hashed.remove_index.Goals as goal

pub find_entry_by_hash-found-requires : goal.find_entry_by_hash-found-requires
find_entry_by_hash-found-requires c = CanAsk-everywhere _ _ _ _ (λ s x. search rules)

pub returns-in-Ok-clause-taken : goal.returns-in-Ok-clause-taken
returns-in-Ok-clause-taken c =
    let test = λ (x : ℕ). x == c.args.ix in
    let found = c.in-Ok.ensures.found in
    let hit =
    Hits-filed (filed c.args.table.now) c.hash.result _ (λ s. s.0.now ≡ c.args.ix) test
    (λ s x b t is i called. search rules) _ found.value refl found.hit in
    let out = c.remove.ensures.removed in
    let same : Some (out.hash, out.ix) ≡ Some (c.hash.result, found.value) = sym out.is_pair ∙ found.is_pair in
    let removed : out.ix ≡ c.args.ix =
    ap (λ (o : Option (ℕ × ℕ)). unwrap_or (option_map (λ p. p.1) o) 0) same ∙ eqb-true _ _ hit.1 in
    let gone = rw (removed, c.in-Ok.ensures.table) at out.others_stay in
    search (rules, gone)
