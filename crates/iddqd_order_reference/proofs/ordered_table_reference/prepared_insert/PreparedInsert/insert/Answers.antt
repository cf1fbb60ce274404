use Rattle.iddqd_order_reference.specs.PreparedInsert.{place_of, index_of}
use Rattle.iddqd_order.proofs.KeyOrderLemmas.{InsertsInKeyOrder-insert}
use Rattle.iddqd_order_reference.proofs.ordered_table_reference.prepared_insert.PreparedInsert.insert.Goals as goal

pub returns-clause-in_order : goal.returns-clause-in_order
unfolding place_of index_of
returns-clause-in_order c =
    let inserted = c.insert_at.ensures.inserted in
    rw inserted (InsertsInKeyOrder-insert _ _ _)
