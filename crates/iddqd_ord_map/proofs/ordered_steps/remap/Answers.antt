use Rattle.std.proofs.Common.{◌∙◌}
use Rattle.iddqd_order.specs.MapBTreeTable.{order_of}
use Rattle.iddqd_by_order.proofs.OrderedHoldsLemmas.{CanRemap-held, one_name-held, map-by_rank}
use Rattle.iddqd_ord_map.proofs.ordered_steps.remap.Goals as goal

pub remap_indexes-requires-clause-can_remap : goal.remap_indexes-requires-clause-can_remap
remap_indexes-requires-clause-can_remap g c =
    let (s, is, valid, named) = c.requires in
    CanRemap-held s (order_of c.args.table.now) is c.args.remap.now valid named

pub remap_indexes-requires-clause-distinct : goal.remap_indexes-requires-clause-distinct
remap_indexes-requires-clause-distinct g c =
    let (s, is, valid, named) = c.requires in
    one_name-held s (order_of c.args.table.now) is c.args.remap.now valid named

pub returns-clause-renamed : goal.returns-clause-renamed
returns-clause-renamed g c = λ s is valid named.
    c.remap_indexes.ensures.renamed ∙ map-by_rank s (order_of c.args.table.now) is c.args.remap.now valid named
