use Rattle.std.proofs.Common.{refl}
use Rattle.iddqd_ord_map.proofs.by_order.ByOrderOfChanges.position.Goals as goal

pub unreachable-requires : goal.unreachable-requires
unreachable-requires g c = c.requires.apart c.in-Err.field-0 ((c.in-Err.ensures c.in-Err.field-0).1 refl)
