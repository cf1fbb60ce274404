use Rattle.std.proofs.Common.{rules}
use Rattle.iddqd_hash.proofs.AskLemmas.{CanAsk-everywhere}
use Rattle.iddqd_examples.proofs.hash_tables.open.find.Goals as goal

pub find-found-requires : goal.find-found-requires
find-found-requires c = CanAsk-everywhere _ _ _ _ (λ s x. search rules)
