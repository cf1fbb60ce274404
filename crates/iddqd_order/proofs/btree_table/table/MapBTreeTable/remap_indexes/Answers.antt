use Rattle.iddqd_order.proofs.Names.{Contains-get_or, order_of}
use Rattle.iddqd_order.proofs.TableLemmas.{IsTable-renamed}
use Rattle.iddqd_order.proofs.btree_table.table.MapBTreeTable.remap_indexes.Goals as goal

pub rename_in-requires-clause-can_remap : goal.rename_in-requires-clause-can_remap
unfolding order_of
rename_in-requires-clause-can_remap c k d lt =
    (rw (← c.self.view_is) at c.requires.can_remap) _ (Contains-get_or _ k d lt)

pub invariant_of-self : goal.invariant_of-self
unfolding order_of
invariant_of-self c =
    IsTable-renamed _ _ _ _ c.args.remap.now c.self.invariant (rw (← c.self.view_is) at c.requires.can_remap)
    (rw (← c.self.view_is) at c.requires.distinct)
    c.names_fit.ensures c.rename_in.ensures.tree c.rename_in.ensures.items c.rename_in.ensures.inners
