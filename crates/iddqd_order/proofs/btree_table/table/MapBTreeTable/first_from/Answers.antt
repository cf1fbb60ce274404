use Rattle.iddqd_order.proofs.Names.{subst}
use Rattle.iddqd_order.specs.Spot.{FindsFrom}
use Rattle.iddqd_order.proofs.BoundLemmas.{reads_by_query}
use Rattle.iddqd_order.proofs.btree_table.table.MapBTreeTable.first_from.Goals as goal

pub returns : goal.returns
returns g c =
    subst (λ b. FindsFrom g.F.FnMut c.args.self.now b c.args.asking.now c.first_from_reading.result c.first_from_reading.new.asking)
    (reads_by_query g.Q.Comparable.compare c.as_ref.result _ _ c.as_ref.ensures c.by_query-from.ensures) c.first_from_reading.ensures
