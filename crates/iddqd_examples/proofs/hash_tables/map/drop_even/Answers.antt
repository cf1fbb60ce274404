use Rattle.std.proofs.Common.{rules}
use Rattle.iddqd_hash.proofs.AskLemmas.{CanAsk-everywhere}
use Rattle.iddqd_examples.proofs.hash_tables.map.drop_even.Goals as goal

pub retain-requires : goal.retain-requires
retain-requires c = CanAsk-everywhere _ _ _ _ (λ s x. search rules)
