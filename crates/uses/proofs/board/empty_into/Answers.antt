use Rattle.std.proofs.Common.{refl}
use Rattle.uses.proofs.board.empty_into.Goals as goal

pub drain_into-requires : goal.drain_into-requires
drain_into-requires g c = λ may. may c.requires

pub returns-clause-handed : goal.returns-clause-handed
returns-clause-handed g c =
    let (pairs, last, walk, given) = c.drain_into.ensures.given in
    (_, last, (pairs, walk, refl), given)
