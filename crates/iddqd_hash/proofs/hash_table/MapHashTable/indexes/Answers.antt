use Rattle.std.proofs.lemmas.List.Sorted.{IsPermutation-sym, IsPermutation-trans}
use Rattle.iddqd_hash.specs.MapHashTable.{filed}
use Rattle.iddqd_hash.proofs.IndexLemmas.{filed_indexes}
use Rattle.iddqd_hash.proofs.hash_table.MapHashTable.indexes.Goals as goal

pub returns : goal.returns
unfolding filed
returns c =
    rw (← c.self.view_is) (IsPermutation-trans _ _ _ (IsPermutation-sym _ _ (filed_indexes _ c.self.invariant)) c.iter.ensures)
