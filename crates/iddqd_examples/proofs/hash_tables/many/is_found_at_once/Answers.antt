use Rattle.std.proofs.Common.{rules}
use Rattle.iddqd_hash.proofs.AskLemmas.{CanAsk-everywhere}
use Rattle.iddqd_examples.proofs.hash_tables.many.is_found_at_once.Goals as goal

pub find_entry_by_hash-found-requires : goal.find_entry_by_hash-found-requires
find_entry_by_hash-found-requires c = CanAsk-everywhere _ _ _ _ (λ s x. search rules)
