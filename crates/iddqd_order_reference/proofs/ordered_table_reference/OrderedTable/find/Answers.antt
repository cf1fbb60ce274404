use Rattle.iddqd_order_reference.proofs.Names.{Ok, Some, None, refl, ap}
use Rattle.iddqd_order_reference.specs.OrderedTable.{order_of}
use Rattle.iddqd_order.proofs.SearchLemmas.{Finds-from_searches}
use Rattle.iddqd_order_reference.proofs.ordered_table_reference.OrderedTable.find.Goals as goal

pub returns-in-Ok : goal.returns-in-Ok
returns-in-Ok g c =
    Finds-from_searches g.F.FnMut (g.H.Reads.reading c.args.how.now) (order_of c.args.self.now) (Ok c.in-Ok.place) _ _ _
    c.in-Ok.ensures (ap Some c.index_at.ensures)

pub returns-in-Err : goal.returns-in-Err
returns-in-Err g c =
    Finds-from_searches g.F.FnMut (g.H.Reads.reading c.args.how.now) (order_of c.args.self.now) _ None _ _ c.in-Err.ensures refl
