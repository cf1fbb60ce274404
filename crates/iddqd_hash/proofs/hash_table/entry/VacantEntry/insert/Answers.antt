use Rattle.iddqd_hash.specs.MapHashTableEntry.{vacant_hash}
use Rattle.iddqd_hash.proofs.hash_table.entry.VacantEntry.insert.Goals as goal

pub returns-clause-added : goal.returns-clause-added
unfolding vacant_hash
returns-clause-added c = rw (← c.new-hash.ensures) c.insert_prehashed_unchecked.ensures.added
