use Rattle.iddqd_ord_map.proofs.by_order.ByOrderOfFindsSame.find_same.Goals as goal

pub returns : goal.returns
returns g c = c.find_same.ensures.as_scan c.requires.indexed.in_sync
