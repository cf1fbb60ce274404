use Rattle.iddqd_hash.specs.MapHashTableEntry.{entry_pair}
use Rattle.iddqd_hash.proofs.hash_table.OccupiedEntry.remove.Goals as goal

pub returns-clause-removed : goal.returns-clause-removed
unfolding entry_pair
returns-clause-removed c = c.remove_at.ensures.removed
