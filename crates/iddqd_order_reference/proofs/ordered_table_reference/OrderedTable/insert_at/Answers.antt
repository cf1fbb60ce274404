use Rattle.iddqd_order_reference.proofs.Names.{ap}
use Rattle.iddqd_order_reference.specs.OrderedTable.{order_of}
use Rattle.iddqd_order.proofs.IndexListLemmas.{IsIndexList-insert}
use Rattle.iddqd_order_reference.proofs.ordered_table_reference.OrderedTable.insert_at.Goals as goal

pub invariant_of-self : goal.invariant_of-self
unfolding order_of
invariant_of-self c =
    let same = ap order_of c.self.view_is in
    rw c.in-Ok.ensures.items
    (IsIndexList-insert c.self.inside.items.items c.args.place c.args.ix (rw same c.requires.absent) c.requires.assigned c.self.invariant)
