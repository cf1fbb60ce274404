use Rattle.std.proofs.lemmas.List.Sorted.{IsPermutation-sym, IsPermutation-trans}
use Rattle.iddqd_hash.specs.MapHashTable.{filed}
use Rattle.iddqd_hash.proofs.MapHashTableLemmas.{under_filed}
use Rattle.iddqd_hash.proofs.hash_table.MapHashTable.indexes_under.Goals as goal

pub returns : goal.returns
unfolding filed
returns c =
    rw (← c.self.view_is, ← c.hash.ensures) (IsPermutation-trans _ _ _ (IsPermutation-sym _ _ (under_filed _ _ c.self.invariant)) c.iter_hash.ensures)
