use Rattle.iddqd_order.specs.MapBTreeTable.{order_of}
use Rattle.iddqd_order.proofs.RetainLemmas.{IsTable-retained}
use Rattle.iddqd_order.proofs.btree_table.table.MapBTreeTable.retain.Goals as goal

pub invariant_of-self : goal.invariant_of-self
invariant_of-self g c =
    IsTable-retained g.F.FnMut c.args.f _ _ _ _ _ _ _ c.self.invariant c.retain_in-height.ensures.tree c.retain_in-height.ensures.counted c.retain_in-height.ensures.kept c.retain_in-height.ensures.inners

pub retain_in-height-requires-clause-can_ask : goal.retain_in-height-requires-clause-can_ask
unfolding order_of
retain_in-height-requires-clause-can_ask g c = rw (← c.self.view_is) at c.requires
