use Rattle.iddqd_hash.proofs.hash_table.MapHashTable.find_index.Goals as goal

pub returns : goal.returns
returns g c = rw (← c.hash_one.ensures, ← c.new-hash.ensures) c.find_index_prehashed.ensures
