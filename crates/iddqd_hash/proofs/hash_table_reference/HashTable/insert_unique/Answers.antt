use Rattle.std.proofs.Common.{refl}
use Rattle.iddqd_hash.specs.TableEntry.{entry_pair}
use Rattle.iddqd_hash.proofs.hash_table_reference.HashTable.insert_unique.Goals as goal

pub invariant_of-result : goal.invariant_of-result
invariant_of-result g c = record { stands = rw c.add-place.ensures.pair refl }

pub returns-clause-pair : goal.returns-clause-pair
unfolding entry_pair
returns-clause-pair g c = c.add-place.ensures.pair
