use Rattle.std.proofs.lemmas.List.Sorted.{IsPermutation-refl}
use Rattle.iddqd_hash.proofs.CellLemmas.{entries-listed}
use Rattle.iddqd_hash.proofs.hash_table_reference.HashTable.iter_hash.Goals as goal

pub returns : goal.returns
returns g c = rw (← c.self.view_is, entries-listed, c.as_slice.ensures.value) (IsPermutation-refl _)
