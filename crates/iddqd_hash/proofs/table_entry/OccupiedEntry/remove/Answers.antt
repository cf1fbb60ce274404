use Rattle.iddqd_hash.specs.TableEntry.{entry_pair}
use Rattle.iddqd_hash.proofs.table_entry.OccupiedEntry.remove.Goals as goal

pub returns-clause-removed : goal.returns-clause-removed
unfolding entry_pair
returns-clause-removed g c = c.take_at.ensures.removed
