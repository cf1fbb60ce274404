use Rattle.iddqd_order.specs.MapBTreeTable.{order_of}
use Rattle.iddqd_ord_map.proofs.OrderedIndexingLemmas.{Sorts-compacted}
use Rattle.iddqd_ord_map.proofs.by_order.ByOrderOfUpkeep.remap.Goals as goal

pub remap-requires : goal.remap-requires
remap-requires g c =
    let (state, (s, is, valid, named)) = c.requires.names in
    (s, is.held, valid, named)

pub returns-clause-indexed : goal.returns-clause-indexed
returns-clause-indexed g c = λ state s is valid named.
    rw (c.remap.ensures.renamed s is.held valid named) (Sorts-compacted _ _ s (order_of c.args.self.now.table) is g.met.E.OrdKey.total)
