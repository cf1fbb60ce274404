use Rattle.iddqd_order.specs.PreparedBTreeInsert.{place_of, index_of}
use Rattle.iddqd_order.proofs.KeyOrderLemmas.{InsertsInKeyOrder-insert}
use Rattle.iddqd_order.proofs.btree_table.prepared_insert.PreparedBTreeInsert.insert.Goals as goal

pub returns-clause-in_order : goal.returns-clause-in_order
unfolding place_of index_of
returns-clause-in_order c =
    let inserted = c.insert_at.ensures.inserted in
    rw inserted (InsertsInKeyOrder-insert _ _ _)
