use Rattle.iddqd_order.specs.MapBTreeTable.{order_of}
use Rattle.iddqd_ord_map.proofs.ByOrderLemmas.{PlansMove-sorted}
use Rattle.iddqd_ord_map.proofs.by_order.ByOrderOfMoves.plan_move.Goals as goal

pub returns : goal.returns
returns g c =
    PlansMove-sorted g.E.OrdKey.key_of g.E.OrdKey.cmp g.met.E.OrdKey.total c.args.items.now.store (order_of c.args.self.now.table) c.requires.indexed c.args.ix c.args.item.now c.plan_move.result c.plan_move.ensures
