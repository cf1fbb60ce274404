use Rattle.std.proofs.Common.{arith}
use Rattle.iddqd_order.proofs.GapLemmas.{none-below}
use Rattle.iddqd_layer.proofs.ordered_keys.insert_one.Goals as goal

pub insert_in-requires-clause-enough : goal.insert_in-requires-clause-enough
insert_in-requires-clause-enough c =
    let room = c.requires.room in
    let none = none-below c.args.table.now c.in-Some.gap c.in-Some.ensures.fits (omega arith) in
    omega arith
