use Rattle.std.proofs.Common.{◌≡◌, length, sym, arith}
use Rattle.std.specs.FinMap as finite
use Rattle.std.proofs.lemmas.List.Sorted.{length_permutation}
use Rattle.iddqd_hash.specs.HashTable.{entries}
use Rattle.iddqd_hash.specs.MapHashTable.{filed, filed_from}
use Rattle.iddqd_hash.proofs.MapHashTableLemmas.{distinct_moved, filed_moved, len_filed}
use Rattle.iddqd_hash.proofs.hash_table.MapHashTable.shrink_to.Goals as goal

pub invariant_of-self : goal.invariant_of-self
invariant_of-self c = distinct_moved _ _ c.shrink_to.ensures.contents c.self.invariant

pub returns-clause-contents : goal.returns-clause-contents
unfolding filed
returns-clause-contents c = rw (← c.self.view_is) (sym (filed_moved _ _ c.shrink_to.ensures.contents c.self.invariant))

pub returns-clause-memory : goal.returns-clause-memory
unfolding filed
returns-clause-memory c =
    let long : length (entries c.self.inside.table) ≡ finite.len (filed_from (entries c.self.inside.table)) =
    len_filed _ c.self.invariant in
    rw (← c.self.view_is, ← long) c.shrink_to.ensures.memory

pub returns-clause-capacity : goal.returns-clause-capacity
unfolding filed
returns-clause-capacity c =
    let long : length (entries c.self.inside.table) ≡ finite.len (filed_from (entries c.self.inside.table)) =
    len_filed _ c.self.invariant in
    let moved = length_permutation _ _ c.shrink_to.ensures.contents in
    let stays = c.shrink_to.ensures.memory.room_stays in
    rw (← c.self.view_is, ← long) (omega (arith, moved, stays))

pub returns-clause-needed : goal.returns-clause-needed
unfolding filed
returns-clause-needed c =
    let long : length (entries c.self.inside.table) ≡ finite.len (filed_from (entries c.self.inside.table)) =
    len_filed _ c.self.invariant in
    rw (← c.self.view_is, ← long) c.shrink_to.ensures.needed
