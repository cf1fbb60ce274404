use Rattle.std.proofs.lemmas.List.Sorted.{IsPermutation-refl}
use Rattle.std.proofs.Common.{length, arith}
use Rattle.iddqd_hash.proofs.CellLemmas.{entries-listed}
use Rattle.iddqd_hash.proofs.SizeLemmas.{Shrinks-listed}
use Rattle.iddqd_hash.proofs.hash_table_reference.HashTable.shrink_to.Goals as goal

pub returns-then-wanted-capacity-clause-contents : goal.returns-then-wanted-capacity-clause-contents
returns-then-wanted-capacity-clause-contents g c =
    rw (← c.self.view_is, entries-listed, entries-listed, c.shrink_to.ensures.items) (IsPermutation-refl _)

pub returns-then-wanted-capacity-clause-memory : goal.returns-then-wanted-capacity-clause-memory
returns-then-wanted-capacity-clause-memory g c =
    rw (← c.self.view_is, entries-listed) (Shrinks-listed c.args.least (length c.self.inside.pairs.items) _ _ _ _ _ _ (omega arith) c.shrink_to.ensures.len (omega arith) (omega arith) _ tt (omega arith) (λ none. c.shrink_to.ensures.frees (omega arith) (omega arith)))

pub returns-clause-contents : goal.returns-clause-contents
returns-clause-contents g c =
    rw (← c.self.view_is, entries-listed, entries-listed, c.shrink_to.ensures.items) (IsPermutation-refl _)

pub returns-clause-memory : goal.returns-clause-memory
returns-clause-memory g c =
    rw (← c.self.view_is, entries-listed) (Shrinks-listed c.args.least (length c.self.inside.pairs.items) _ _ _ _ _ _ (omega arith) c.shrink_to.ensures.len (omega arith) (omega arith) _ (omega arith) tt (λ none. c.shrink_to.ensures.frees (omega arith) (omega arith)))
