use Rattle.iddqd_hash.specs.MapHashTable.{filed}
use Rattle.iddqd_hash.proofs.MapHashTableLemmas.{distinct_removed}
use Rattle.iddqd_hash.proofs.hash_table.MapHashTable.remove_at.Goals as goal

pub invariant_of-self : goal.invariant_of-self
invariant_of-self c = (distinct_removed _ _ _ _ c.take_at.ensures.removed.others_stay c.self.invariant).0

pub returns-clause-removed : goal.returns-clause-removed
unfolding filed
returns-clause-removed c =
    let out = c.take_at.ensures.removed in
    rw (← c.self.view_is) (
    record {
      hash = out.hash;
      ix = c.take_at.result;
      is_pair = out.is_pair;
      others_stay = (distinct_removed _ _ _ _ out.others_stay c.self.invariant).1;
    })
