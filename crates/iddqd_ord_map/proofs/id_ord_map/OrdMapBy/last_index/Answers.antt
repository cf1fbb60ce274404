use Rattle.std.proofs.Common.{subst}
use Rattle.iddqd_order.specs.MapBTreeTable.{order_of}
use Rattle.iddqd_ord_map.specs.ByOrder.{FindsGreatest}
use Rattle.iddqd_ord_map.specs.ByOrderLaws.{Sorts-scan}
use Rattle.iddqd_ord_map.proofs.SortedScanLemmas.{FindsGreatest-last}
use Rattle.iddqd_ord_map.proofs.id_ord_map.OrdMapBy.last_index.Goals as goal

pub returns : goal.returns
returns g c =
    let key_of = g.E.OrdKey.key_of in
    let compare = g.E.OrdKey.cmp in
    subst (λ s. FindsGreatest key_of compare s c.last.result) c.parts.ensures.items
    (FindsGreatest-last key_of compare _ _ (Sorts-scan key_of compare c.parts.result.0.now.store (order_of c.parts.result.1.now) c.parts.ensures.sorted) g.met.E.OrdKey.total c.last.result c.last.ensures)
