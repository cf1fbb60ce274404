use Rattle.iddqd_map.specs.NoConflict.{never_hit}
use Rattle.iddqd_groups.proofs.by_hash_multi.ByHashMultiOfChanges.look_up.Goals as goal

pub returns : goal.returns
returns g c = (never_hit c.args.items.now.store c.args.item.now, tt)
