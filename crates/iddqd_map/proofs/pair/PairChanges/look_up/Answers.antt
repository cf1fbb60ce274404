use Rattle.iddqd_map.specs.PairLaws.{HasNoHit-either}
use Rattle.iddqd_map.proofs.pair.PairChanges.look_up.Goals as goal

pub returns-in-Ok-second : goal.returns-in-Ok-second
returns-in-Ok-second g c =
    let one = c.in-Ok.ensures in
    let two = c.in-Ok-second.ensures in
    (HasNoHit-either g.A.KeyIndex.alike g.B.KeyIndex.alike c.args.items.now.store c.args.item.now one.0 two.0, (one.1, two.1))
