use Rattle.std.proofs.Common.{◌≡◌, None}
use Rattle.std.specs.FinMap as finite
use Rattle.iddqd_hash.specs.HashTable.{entries}
use Rattle.iddqd_hash.specs.MapHashTable.{filed, filed_from}
use Rattle.iddqd_hash.proofs.MapHashTableLemmas.{distinct_added}
use Rattle.iddqd_hash.proofs.hash_table.MapHashTable.insert_prehashed_unchecked.Goals as goal

pub invariant_of-self : goal.invariant_of-self
unfolding filed
invariant_of-self c =
    let absent : finite.get (filed_from (entries c.self.inside.table)) c.args.ix ≡ None =
    rw (← c.self.view_is) at c.requires.new in
    (distinct_added _ _ _ _ absent c.insert_unique.ensures.added c.self.invariant).0

pub returns-clause-added : goal.returns-clause-added
unfolding filed
returns-clause-added c =
    let absent : finite.get (filed_from (entries c.self.inside.table)) c.args.ix ≡ None =
    rw (← c.self.view_is) at c.requires.new in
    rw (← c.self.view_is, ← c.hash.ensures) (distinct_added _ _ _ _ absent c.insert_unique.ensures.added c.self.invariant).1
