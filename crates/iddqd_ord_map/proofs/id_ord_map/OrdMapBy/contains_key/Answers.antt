use Rattle.iddqd_by_order.specs.Ordered.{is_equal}
use Rattle.iddqd_map.proofs.FoundLemmas.{scan_misses}
use Rattle.iddqd_ord_map.proofs.id_ord_map.OrdMapBy.contains_key.Goals as goal

pub returns : goal.returns
returns g c =
    let test = is_equal (g.Q.ItemRangeQuery.compare_item c.args.query) in
    rw c.is_some.ensures (scan_misses c.args.self.now.store test c.find.result c.find.ensures)
