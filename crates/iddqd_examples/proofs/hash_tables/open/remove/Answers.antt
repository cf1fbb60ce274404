use Rattle.std.proofs.Common.{rules}
use Rattle.iddqd_hash.proofs.AskLemmas.{CanAsk-everywhere}
use Rattle.iddqd_examples.proofs.hash_tables.open.remove.Goals as goal

pub find_entry-requires : goal.find_entry-requires
find_entry-requires c = CanAsk-everywhere _ _ _ _ (λ s x. search rules)
