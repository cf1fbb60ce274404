use Rattle.iddqd_order.proofs.MoveLemmas.{removed-anyway}
use Rattle.iddqd_order.proofs.btree_table.table.MapBTreeTable.remove_by_walk.Goals as goal

pub returns-clause-removed : goal.returns-clause-removed
returns-clause-removed c = removed-anyway c.remove_found.result c.locate-spot.result _ _ _ c.remove_found.ensures.found c.locate-spot.ensures.found c.remove_found.ensures.removed c.remove_found.ensures.kept
