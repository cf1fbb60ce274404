use Rattle.iddqd_order.specs.MapBTreeTable.{order_of}
use Rattle.iddqd_by_order.proofs.ItemLemmas.{IsInPlace-items}
use Rattle.iddqd_ord_map.proofs.ordered_query.range_by.Goals as goal

pub range-requires : goal.range-requires
range-requires g c = c.requires.holds

pub returns : goal.returns
returns g c =
    c.range.ensures.in_place (IsInPlace-items g.E.OrdKey.key_of g.E.OrdKey.cmp c.args.items.now.store (order_of c.args.table.now) c.requires.placed)
