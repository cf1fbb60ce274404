use Rattle.iddqd_order.proofs.Names.{◌<◌, arith, order_of}
use Rattle.iddqd_order.proofs.btree_table.table.MapBTreeTable.index_at.Goals as goal

pub unreachable-requires : goal.unreachable-requires
unreachable-requires c = let none : 0 < 0 = rw (← c.self.view_is, c.in_default.is) at c.requires in absurd (omega arith)

pub index_on-requires : goal.index_on-requires
index_on-requires c =
    let tree = rw c.in-Some.is at c.self.invariant.tree in
    record { formed = tree.0; levels = tree.2; holds = rw (← c.self.view_is, c.in-Some.is) at c.requires }

pub returns : goal.returns
unfolding order_of
returns c = rw (← c.self.view_is, c.in-Some.is) c.index_on.ensures
