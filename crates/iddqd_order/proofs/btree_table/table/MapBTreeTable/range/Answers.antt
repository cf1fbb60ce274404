use Rattle.iddqd_order.proofs.Names.{subst, order_of}
use Rattle.iddqd_order.specs.Range.{WalksBetween, bound_reading}
use Rattle.iddqd_order.proofs.BoundLemmas.{reads_by_query}
use Rattle.iddqd_order.proofs.btree_table.table.MapBTreeTable.range.Goals as goal

pub returns : goal.returns
returns g c =
    let compare = g.Q.Comparable.compare in
    let order = order_of c.args.self.now in
    let old = c.args.asking.now in
    let new = c.range_reading.new.asking in
    let lower = reads_by_query compare c.as_ref.result c.by_query-from.result c.args.lower c.as_ref.ensures c.by_query-from.ensures in
    let upper = reads_by_query compare c.as_ref-2.result c.by_query-to.result c.args.upper c.as_ref-2.ensures c.by_query-to.ensures in
    subst (λ b. WalksBetween g.F.FnMut order b (bound_reading compare c.args.upper) old c.range_reading.result new) lower
    (subst (λ b. WalksBetween g.F.FnMut order (bound_reading (λ by k. compare by.0.now k) c.as_ref.result) b old c.range_reading.result new) upper c.range_reading.ensures)
