use Rattle.std.proofs.Common.{rules, ◌≡◌, ◌==◌, ◌∷◌, ℕ, Bool, true, false, not, ap, sym, refl}
use Rattle.std.specs.List.{list_any}
use Rattle.std.specs.List.Sorted.{IsPermutation}
use Rattle.std.proofs.lemmas.List.Sorted.{IsPermutation-refl, IsPermutation-trans, IsPermutation-cons}
use Rattle.iddqd_hash.specs.HashTable.{entries, under}
use Rattle.iddqd_hash.specs.TableEntry.{entry_table}
use Rattle.iddqd_hash.proofs.AskLemmas.{CanAsk-everywhere, Hits-tested, Misses-tested, list_any-passed}
use Rattle.table_uses.proofs.values.enter_open.Goals as goal

pub entry-requires : goal.entry-requires
entry-requires c = CanAsk-everywhere _ _ _ _ (λ s x. search rules)

pub returns-in-Ok-Occupied-clause-entered : goal.returns-in-Ok-Occupied-clause-entered
returns-in-Ok-Occupied-clause-entered c =
    let stays : IsPermutation (entries c.args.table.now) (entries (entry_table c.in-Ok-Occupied._entry)) = rw (rw c.in-Ok-Occupied.field-0-is at c.in-Ok-Occupied.ensures.same_table) (IsPermutation-refl _) in
    search (rules, stays)

pub returns-in-Ok-Vacant-clause-entered : goal.returns-in-Ok-Vacant-clause-entered
returns-in-Ok-Vacant-clause-entered c =
    let vacancy = rw c.in-Ok-Vacant.field-0-is at c.in-Ok-Vacant.ensures.vacant in
    let contents = rw c.in-Ok-Vacant.field-0-is at c.in-Ok-Vacant.ensures.contents in
    let added = rw vacancy.same_hash at c.insert.ensures.added in
    let whole : IsPermutation ((c.args.hash, c.args.value) ∷ entries c.args.table.now) (entries (entry_table c.insert.result)) =
    IsPermutation-trans _ _ _ (IsPermutation-cons (c.args.hash, c.args.value) _ _ contents) added in
    search (rules, whole)

pub returns-in-Ok-Occupied-clause-new : goal.returns-in-Ok-Occupied-clause-new
returns-in-Ok-Occupied-clause-new c =
    let test : ℕ → Bool = λ x. x == c.args.value in
    let found = rw c.in-Ok-Occupied.field-0-is at c.in-Ok-Occupied.ensures.found in
    let hit = Hits-tested _ (λ s. s.0.now ≡ c.args.value) test _ (λ s x b t here i called. search rules) _ _ refl found.hit in
    let any : list_any test (under c.args.hash (entries c.args.table.now)) ≡ true = list_any-passed test _ found.value hit.0 hit.1 in
    sym (ap not any)

pub returns-in-Ok-Vacant-clause-new : goal.returns-in-Ok-Vacant-clause-new
returns-in-Ok-Vacant-clause-new c =
    let test : ℕ → Bool = λ x. x == c.args.value in
    let missed = rw c.in-Ok-Vacant.field-0-is at c.in-Ok-Vacant.ensures.missed in
    let none : list_any test (under c.args.hash (entries c.args.table.now)) ≡ false = Misses-tested _ (λ s. s.0.now ≡ c.args.value) test _ (λ s x b t here i called. search rules) _ refl missed in
    sym (ap not none)
