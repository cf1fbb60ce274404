use Rattle.std.proofs.Common.{rules}
use Rattle.iddqd_order.proofs.Names.{AtIndex, sym, order_of}
use Rattle.iddqd_order.proofs.TableLemmas.{shorter}
use Rattle.iddqd_order.proofs.TreeLemmas.{place_at_level_in-within}
use Rattle.iddqd_order.proofs.btree_table.table.MapBTreeTable.remove_along.Goals as goal

pub overflow_sub-self : goal.overflow_sub-self
unfolding order_of
overflow_sub-self g c =
    let way = rw (← c.self.view_is) at c.requires.holds in let taken = c.remove_in-ix.ensures in
    (shorter _ _ _ _ _ _ _ _ c.self.invariant way (sym taken.index) taken.tree taken.items taken.inners).some

pub invariant_of-self : goal.invariant_of-self
unfolding order_of
invariant_of-self g c =
    let way = rw (← c.self.view_is) at c.requires.holds in let taken = c.remove_in-ix.ensures in
    (shorter _ _ _ _ _ _ _ _ c.self.invariant way (sym taken.index) taken.tree taken.items taken.inners).table

pub returns : goal.returns
unfolding order_of
returns g c = record {
  removed = (
      let way = rw (← c.self.view_is) at c.requires.holds in let taken = c.remove_in-ix.ensures in
      rw (← c.self.view_is)
      (shorter _ _ _ _ _ _ _ _ c.self.invariant way (sym taken.index) taken.tree taken.items taken.inners).items);
  index = rw (← c.self.view_is) c.remove_in-ix.ensures.index;
  within = (
      let way = rw (← c.self.view_is) at c.requires.holds in
      rw (← c.self.view_is) (place_at_level_in-within AtIndex _ _ _ _ c.self.invariant.tree way));
  items = search rules;
  path = c.remove_in-ix.ensures.path;
  no_higher = search rules;
  goes = λ wanted. c.remove_in-ix.ensures.goes wanted;
  reserved = search rules;
  place = λ wanted. rw (← c.self.view_is) (c.remove_in-ix.ensures.place wanted);
}
