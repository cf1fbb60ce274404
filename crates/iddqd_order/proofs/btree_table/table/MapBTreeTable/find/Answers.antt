use Rattle.iddqd_order.proofs.Names.{[], None, Err, refl, arith, order_of}
use Rattle.iddqd_order.proofs.SearchLemmas.{Finds-from_searches}
use Rattle.iddqd_order.proofs.PartLemmas.{SearchesWithin-more}
use Rattle.iddqd_order.proofs.ReckoningLemmas.{reckoning}
use Rattle.iddqd_order.proofs.TableLemmas.{Searches-nil}
use Rattle.iddqd_order.proofs.btree_table.table.MapBTreeTable.find.Goals as goal

pub find-requires-clause-can_search : goal.find-requires-clause-can_search
unfolding order_of
find-requires-clause-can_search g c = rw (← c.self.view_is, c.in-Some.is) at c.requires

pub returns-in_default : goal.returns-in_default
unfolding order_of
returns-in_default g c =
    let read = g.H.Reads.reading c.args.how.now in
    rw (← c.self.view_is, c.in_default.is)
    (Finds-from_searches g.F.FnMut read [] (Err 0) None _ _ (Searches-nil g.F.FnMut read None _) refl)

pub returns : goal.returns
unfolding order_of
returns g c =
    let read = g.H.Reads.reading c.args.how.now in
    let tree = rw c.in-Some.is at c.self.invariant.tree in
    let d = c.find.ensures in
    let asks = reckoning _ 1 _ tree.0 tree.1 (omega arith) (omega arith) in
    rw (← c.self.view_is, c.in-Some.is) (Finds-from_searches g.F.FnMut read _ d.end _ _ _ (SearchesWithin-more g.F.FnMut read None (omega arith) d.searches) d.index)

pub find-requires-clause-formed : goal.find-requires-clause-formed
unfolding order_of
find-requires-clause-formed g c = (rw c.in-Some.is at c.self.invariant.tree).0
