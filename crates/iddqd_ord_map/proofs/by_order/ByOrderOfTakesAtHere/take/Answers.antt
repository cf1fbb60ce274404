use Rattle.iddqd_order.specs.MapBTreeTable.{order_of}
use Rattle.iddqd_by_order.specs.Ordered.{is_equal}
use Rattle.iddqd_ord_map.proofs.ByOrderLemmas.{TakesFound-taken}
use Rattle.iddqd_ord_map.proofs.by_order.ByOrderOfTakesAtHere.take.Goals as goal

pub returns-clause-taken : goal.returns-clause-taken
returns-clause-taken g c =
    let test = is_equal (g.Q.ItemRangeQuery.compare_item c.args.query) in
    TakesFound-taken g.E.OrdKey.key_of g.E.OrdKey.cmp g.met.E.OrdKey.total c.args.items.now.store (order_of c.args.self.now.table) c.requires.indexed c.args.state.now test c.take_by.result _ c.take_by.ensures.found c.take_by.ensures.taken
