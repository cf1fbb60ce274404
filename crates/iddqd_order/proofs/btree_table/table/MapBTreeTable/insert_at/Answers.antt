use Rattle.iddqd_order.proofs.Names.{arith, order_of}
use Rattle.iddqd_order.proofs.TableLemmas.{few, IsTable-put}
use Rattle.iddqd_order.proofs.btree_table.table.MapBTreeTable.insert_at.Goals as goal

pub put_in-self-inside-requires-clause-fits : goal.put_in-self-inside-requires-clause-fits
put_in-self-inside-requires-clause-fits c =
    let most = few _ _ _ c.self.invariant in let counted = c.self.invariant.counted in omega arith

pub overflow_add-self : goal.overflow_add-self
overflow_add-self c = let most = few _ _ _ c.self.invariant in omega arith

pub invariant_of-self : goal.invariant_of-self
unfolding order_of
invariant_of-self c =
    let number = c.as_u32-number.ensures in
    let small = c.as_u32-number.type_inv in
    let assigned = c.requires.assigned in
    let put = c.put_in-self-inside.ensures in
    IsTable-put _ _ _ _ _ _ _ c.self.invariant (rw (← c.self.view_is) at c.requires.goes)
    (rw (← c.self.view_is) at c.requires.absent) (omega arith) put.tree put.items put.inners

pub put_in-self-inside-requires-clause-goes : goal.put_in-self-inside-requires-clause-goes
unfolding order_of
put_in-self-inside-requires-clause-goes c = rw (← c.self.view_is) at c.requires.goes

pub returns-clause-reserved : goal.returns-clause-reserved
unfolding order_of
returns-clause-reserved c = rw (← c.self.view_is) c.put_in-self-inside.ensures.reserved

pub put_in-self-inside-requires-clause-full : goal.put_in-self-inside-requires-clause-full
unfolding order_of
put_in-self-inside-requires-clause-full c = rw (← c.self.view_is) at c.requires.full
