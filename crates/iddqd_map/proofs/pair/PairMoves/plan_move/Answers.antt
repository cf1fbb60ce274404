use Rattle.iddqd_map.specs.PairLaws.{HasNoOther-either, moves_either}
use Rattle.iddqd_map.proofs.pair.PairMoves.plan_move.Goals as goal

pub returns-in-Ok-second : goal.returns-in-Ok-second
returns-in-Ok-second g c =
    let one = c.in-Ok.ensures in
    let two = c.in-Ok-second.ensures in (
      (one.0, two.0),
      HasNoOther-either g.A.KeyIndex.alike g.B.KeyIndex.alike c.args.items.now.store c.args.item.now c.args.ix one.1 two.1,
      λ was live. moves_either _ _ _ _ (one.2 was live) (two.2 was live),
    )
