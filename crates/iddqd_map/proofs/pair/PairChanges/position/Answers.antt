use Rattle.iddqd_map.specs.PairLaws.{HasNoHit-first, HasNoHit-second}
use Rattle.iddqd_map.proofs.pair.PairChanges.position.Goals as goal

pub position-requires-clause-apart : goal.position-requires-clause-apart
position-requires-clause-apart g c = HasNoHit-first g.A.KeyIndex.alike g.B.KeyIndex.alike c.args.items.now.store c.args.item.now c.requires.apart

pub position-requires-2-clause-apart : goal.position-requires-2-clause-apart
position-requires-2-clause-apart g c = HasNoHit-second g.A.KeyIndex.alike g.B.KeyIndex.alike c.args.items.now.store c.args.item.now c.requires.apart
