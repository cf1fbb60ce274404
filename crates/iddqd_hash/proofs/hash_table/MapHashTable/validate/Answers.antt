use Rattle.std.proofs.Common.{ℕ, nat_eq, List, get_or, sym, ◌∙◌}
use Rattle.std.specs.Cmp.{unsigned_tied}
use Rattle.std.specs.List.{IsDistinct}
use Rattle.std.specs.Ordering.{nat_cmp, eq_by_cmp}
use Rattle.std.proofs.lemmas.Map.Keys.{IsDistinct-from_apart, IsDistinct-IsPermutation, apart_from_distinct}
use Rattle.iddqd.proofs.SoundIndexLemmas.{Validates-listed, nat_eq-flips}
use Rattle.iddqd_hash.specs.HashTable.{entries, values}
use Rattle.iddqd_hash.specs.MapHashTable.{filed, filed_from, indexes_of, IsDistinctlyFiled}
use Rattle.iddqd_hash.proofs.IndexLemmas.{filed_indexes}
use Rattle.iddqd_hash.proofs.hash_table.MapHashTable.validate.Goals as goal

-- no index is filed twice, by either test
indexes_apart : (es : List (ℕ × ℕ)) → IsDistinctlyFiled es → IsDistinct nat_eq (indexes_of (filed_from es))
indexes_apart es apart =
    let stored =
    IsDistinct-from_apart nat_eq (values es) (λ i j d before within. sym (unsigned_tied (get_or (values es) i d) (get_or (values es) j d)) ∙ apart_from_distinct (eq_by_cmp nat_cmp) (values es) i j d apart before within) in
    IsDistinct-IsPermutation nat_eq nat_eq-flips (values es) (indexes_of (filed_from es)) (filed_indexes es apart) stored

pub returns-in-Ok : goal.returns-in-Ok
unfolding filed
returns-in-Ok c =
    let apart : IsDistinct nat_eq (indexes_of (filed c.args.self.now)) =
    rw (← c.self.view_is) (indexes_apart (entries c.self.inside.table) c.self.invariant) in
    Validates-listed c.args.compactness c.args.expected_len (indexes_of (filed c.args.self.now)) apart c.validate_hash_indexes.result _ c.in-Ok.ensures (rw c.deref.ensures.value at c.validate_hash_indexes.ensures)
