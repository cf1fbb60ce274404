use Rattle.iddqd_hash.specs.MapHashTable.{filed}
use Rattle.iddqd_keys.specs.Scan.{passes_by}
use Rattle.iddqd_driver.proofs.InSyncLemmas.{Searched}
use Rattle.iddqd_driver.proofs.keyed_items.validation.has_lesser.Given as goal

-- the indexes that are left are under the hash, and no other one under it is lesser and has the key
abbrev pub invariant-loop-at : goal.invariant-loop-at
invariant-loop-at g l =
    Searched l.items.store (filed l.table) l.fn.hash (passes_by g.T.KeyedItem.first_key (g.T.Key1.PartialEq.eq l.key)) l.ix l.at-iterator
