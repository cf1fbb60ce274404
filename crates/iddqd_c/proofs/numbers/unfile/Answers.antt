use Rattle.std.proofs.Common.{rules, ◌≡◌, ◌∙◌, ◌==◌, ℕ, Bool, true, false, Option, Some, inl, inr, option_map, ap, sym, refl, eqb-true, eq-eqb}
use Rattle.std.specs.List.{Contains, list_any}
use Rattle.std.specs.Option.{unwrap_or}
use Rattle.iddqd_hash.specs.HashTable.{entries, under}
use Rattle.iddqd_hash.proofs.AskLemmas.{CanAsk-everywhere, Hits-tested, Misses-tested, list_any-passed}
use Rattle.iddqd_c.proofs.numbers.unfile.Goals as goal

pub find_entry-requires : goal.find_entry-requires
find_entry-requires c = CanAsk-everywhere _ _ _ _ (λ s x. search rules)

pub returns-in-Ok : goal.returns-in-Ok
returns-in-Ok c =
    let test : ℕ → Bool = λ x. x == c.args.number in
    let found = c.in-Ok.ensures.found in
    let hit = Hits-tested _ (λ s. s.0.now ≡ c.args.number) test _ (λ s x b t here i called. search rules) _ _ refl found.hit in
    let is : found.value ≡ c.args.number = eqb-true _ _ hit.1 in
    let out = c.remove.ensures.removed in
    let same : Some (out.hash, c.remove.result) ≡ Some (c.args.hash, found.value) = sym out.is_pair ∙ found.is_pair in
    let hashed : out.hash ≡ c.args.hash = ap (λ (o : Option (ℕ × ℕ)). unwrap_or (option_map (λ p. p.0) o) 0) same in
    let removed : c.remove.result ≡ c.args.number = ap (λ (o : Option (ℕ × ℕ)). unwrap_or (option_map (λ p. p.1) o) 0) same ∙ is in
    let gone = rw (hashed, removed, c.in-Ok.ensures.table) at out.others_stay in
    let kept = rw c.in-Ok.ensures.table at c.remove.ensures.memory in
    let more = rw c.in-Ok.ensures.table at c.remove.ensures.room in
    inl (refl, search (rules, gone), search (rules, kept), search (rules, more))

pub returns-in-Err : goal.returns-in-Err
returns-in-Err c =
    let test : ℕ → Bool = λ x. x == c.args.number in
    let none : list_any test (under c.args.hash (entries c.args.table.now)) ≡ false =
    Misses-tested _ (λ s. s.0.now ≡ c.args.number) test _ (λ s x b t here i called. search rules) _ refl c.in-Err.ensures.missed in
    let never : Contains (under c.args.hash (entries c.args.table.now)) c.args.number → ⊥ = λ here.
    (let any = list_any-passed test _ c.args.number here (eq-eqb c.args.number c.args.number refl) in
    let both : true ≡ false = sym any ∙ none in cc) in
    inr (refl, never, search rules)
