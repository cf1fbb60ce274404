use Rattle.std.proofs.Common.{rules}
use Rattle.iddqd_hash.proofs.AskLemmas.{CanAsk-everywhere}
use Rattle.iddqd_examples.proofs.hash_tables.linear.find.Goals as goal

pub find-requires : goal.find-requires
find-requires c = CanAsk-everywhere _ _ _ _ (λ s x. search rules)
