use Rattle.std.proofs.Common.{rules, ◌≡◌, refl, is_some, option_copied}
use Rattle.std.specs.List.{list_any}
use Rattle.iddqd_hash.specs.HashTable.{entries, under}
use Rattle.iddqd_hash.proofs.AskLemmas.{CanAsk-everywhere, LooksUp-tested}
use Rattle.table_uses.proofs.values.has.Goals as goal

pub find-requires : goal.find-requires
find-requires g c = CanAsk-everywhere _ _ _ _ (λ s x. search rules)

pub returns : goal.returns
returns g c =
    let test : g.row.T.Denot → _ = λ x. g.T.PartialEq.eq x c.args.value.now in
    let same : is_some (option_copied c.find.result) ≡ list_any test (under c.args.hash (entries c.args.table.now)) =
    LooksUp-tested _ (λ s. s.0.now ≡ c.args.value.now) test _ (λ s x b t here i called. search rules) _ _ refl c.find.ensures in
    search rules
