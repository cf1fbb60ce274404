use Rattle.std.proofs.Common.{rules}
use Rattle.iddqd_hash.proofs.AskLemmas.{CanAsk-everywhere}
use Rattle.iddqd_examples.proofs.hash_tables.found.take_second.Goals as goal

pub find_entry-found-requires : goal.find_entry-found-requires
find_entry-found-requires c = CanAsk-everywhere _ _ _ _ (λ s x. search rules)
