use Rattle.iddqd_order.proofs.Names.{refl, sym, order_of}
use Rattle.iddqd_order.proofs.IndexListLemmas.{Contains-at}
use Rattle.iddqd_order.proofs.NodeLemmas.{place_at_level-within}
use Rattle.iddqd_order.proofs.btree_table.table.MapBTreeTable.locate.Goals as goal

pub returns-clause-found : goal.returns-clause-found
unfolding order_of
returns-clause-found c =
    let there = c.in_ok-level.ensures.there in
    rw (← c.self.view_is, c.in-Some.is) (λ _. Contains-at _ _ _ (place_at_level-within _ _ _ _ (rw c.in-Some.is at c.self.invariant.tree).0 there.0) (sym there.1), λ _. refl)

pub returns-clause-there : goal.returns-clause-there
unfolding order_of
returns-clause-there c = rw (← c.self.view_is, c.in-Some.is) c.in_ok-level.ensures.there
