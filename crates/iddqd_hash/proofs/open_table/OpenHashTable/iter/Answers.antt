use Rattle.std.proofs.lemmas.List.Sorted.{IsPermutation-refl}
use Rattle.iddqd_hash.proofs.OpenAheadLemmas.{IsWalk-start}
use Rattle.iddqd_hash.proofs.OpenTableLemmas.{entries-table_of}
use Rattle.iddqd_hash.proofs.open_table.OpenHashTable.iter.Goals as goal

pub invariant_of-result : goal.invariant_of-result
invariant_of-result g c =
    rw (c.as_slice.ensures.value, c.as_slice-2.ensures.value)
    (IsWalk-start _ _ _ _ _ _ _ c.self.invariant.sound c.new.ensures.at c.new.ensures.end c.new.ensures.mask)

pub returns : goal.returns
returns g c =
    rw (← c.self.view_is, entries-table_of, c.as_slice.ensures.value, c.as_slice-2.ensures.value, c.new.ensures.at) (IsPermutation-refl _)
