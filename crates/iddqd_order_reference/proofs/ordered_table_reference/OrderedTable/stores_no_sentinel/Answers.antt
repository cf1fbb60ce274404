use Rattle.iddqd_order_reference.proofs.Names.{ap, subst, IsIndexList}
use Rattle.iddqd_order_reference.specs.OrderedTable.{order_of}
use Rattle.iddqd_order.proofs.IndexListLemmas.{sentinel-absent}
use Rattle.iddqd_order_reference.proofs.ordered_table_reference.OrderedTable.stores_no_sentinel.Goals as goal

pub returns : goal.returns
unfolding order_of
returns c = sentinel-absent (order_of c.args.self.now) (subst IsIndexList (ap order_of c.self.view_is) c.self.invariant)
