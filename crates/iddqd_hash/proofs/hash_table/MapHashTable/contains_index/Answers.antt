use Rattle.std.proofs.Common.{rules, ◌≡◌, ◌==◌, ◌∙◌, ◌∷◌, [], true, sym, ap}
use mathlib.Core.Bool.{◌||◌}
use Rattle.std.specs.List.{list_any}
use Rattle.iddqd_hash.specs.HashTable.{entries}
use Rattle.iddqd_hash.specs.MapHashTable.{filed}
use Rattle.iddqd_hash.proofs.IndexLemmas.{contains_is}
use Rattle.iddqd_hash.proofs.hash_table.MapHashTable.contains_index.Goals as goal

pub returns-then-eq : goal.returns-then-eq
unfolding filed
returns-then-eq c =
    let steps : c.walking.walk ≡ c.in-Some.at.now ∷ c.next.new.self = c.in-Some.ensures.steps in
    let here : (c.in-Some.at.now == c.args.ix) ≡ true = search rules in
    let yes : list_any (λ at. at == c.args.ix) c.walking.walk ≡ true =
    ap (list_any (λ at. at == c.args.ix)) steps
    ∙ ap (λ b. b || list_any (λ at. at == c.args.ix) c.next.new.self) here in
    rw (← c.self.view_is) (sym yes ∙ c.walking.invariant ∙ contains_is c.args.ix (entries c.self.inside.table) c.iter-walk.result c.iter-walk.ensures)

pub returns : goal.returns
unfolding filed
returns c =
    let none : c.walking.walk ≡ [] = c.in_default.ensures.steps.0 in
    rw (← c.self.view_is) (sym (ap (list_any (λ at. at == c.args.ix)) none) ∙ c.walking.invariant ∙ contains_is c.args.ix (entries c.self.inside.table) c.iter-walk.result c.iter-walk.ensures)
