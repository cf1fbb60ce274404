use Rattle.std.proofs.Common.{length, ap, arith}
use Rattle.iddqd_hash.specs.HashTable.{memory, listed}
use Rattle.iddqd_hash.proofs.CellLemmas.{entries-listed}
use Rattle.iddqd_hash.proofs.CopyLemmas.{Rewrites-cloned}
use Rattle.iddqd_hash.proofs.hash_table_reference.copies.HashTableClone.clone.Goals as goal

pub returns-clause-cases : goal.returns-clause-cases
returns-clause-cases g c =
    let clones = rw c.deref.ensures.value at c.in_ok-cloned_pairs.ensures.clones in
    rw (← c.self.view_is, entries-listed, entries-listed) (Rewrites-cloned g.T.Clone.is_clone _ _ clones)

pub returns-clause-memory : goal.returns-clause-memory
unfolding memory listed
returns-clause-memory g c =
    rw (← c.self.view_is) (omega (arith, c.in_ok-cloned_pairs.ensures.capacity, ap length c.deref.ensures.value, c.self.inside.pairs.ok.0))
