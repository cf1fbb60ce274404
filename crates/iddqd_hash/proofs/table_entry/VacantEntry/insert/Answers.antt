use Rattle.iddqd_hash.specs.TableEntry.{entry_pair, vacant_hash}
use Rattle.iddqd_hash.proofs.table_entry.VacantEntry.insert.Goals as goal

pub returns-clause-pair : goal.returns-clause-pair
unfolding entry_pair vacant_hash
returns-clause-pair g c = c.add-place.ensures.pair

pub returns-clause-added : goal.returns-clause-added
unfolding vacant_hash
returns-clause-added g c = c.add-place.ensures.added
