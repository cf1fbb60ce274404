use Rattle.std.proofs.Common.{rules, ◌≡◌, ◌==◌, ℕ, not, refl}
use Rattle.iddqd_hash.proofs.AskLemmas.{CanAsk-everywhere}
use Rattle.iddqd_hash.proofs.RetainLemmas.{RetainsPairs-tested}
use Rattle.table_uses.proofs.values.keep_others.Goals as goal

pub retain-requires : goal.retain-requires
retain-requires c = CanAsk-everywhere _ _ _ _ (λ s x. search rules)

pub returns : goal.returns
returns c =
    let test = λ (x : ℕ). not (x == c.args.value) in
    RetainsPairs-tested _ (λ s. s.0.now ≡ c.args.value) test (λ s x b t i called. search rules) _ _ _ refl c.retain.ensures.kept
