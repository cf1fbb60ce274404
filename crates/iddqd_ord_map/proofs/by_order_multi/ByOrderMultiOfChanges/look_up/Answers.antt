use Rattle.iddqd_map.specs.NoConflict.{never_hit}
use Rattle.iddqd_ord_map.proofs.by_order_multi.ByOrderMultiOfChanges.look_up.Goals as goal

pub returns : goal.returns
returns g c = (never_hit c.args.items.now.store c.args.item.now, tt)
