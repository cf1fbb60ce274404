use Rattle.iddqd_hash.specs.MapHashTable.{filed}
use Rattle.iddqd_hash.proofs.MemberLemmas.{get-remove_at}
use Rattle.iddqd_layer.proofs.hashed_keys.rehash_one.Goals as goal

pub insert_prehashed_unchecked-requires-clause-new : goal.insert_prehashed_unchecked-requires-clause-new
insert_prehashed_unchecked-requires-clause-new c =
    rw c.remove_index.ensures.taken (get-remove_at (filed c.args.table.now) c.args.ix)
