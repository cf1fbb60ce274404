use Rattle.std.proofs.Common.{rules}
use Rattle.iddqd_hash.proofs.AskLemmas.{CanAsk-everywhere}
use Rattle.iddqd_examples.proofs.hash_tables.open.take.Goals as goal

pub entry-requires : goal.entry-requires
entry-requires c = CanAsk-everywhere _ _ _ _ (λ s x. search rules)
