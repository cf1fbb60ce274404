use Rattle.std.proofs.Common.{arith}
use Rattle.iddqd_map.proofs.HashLemmas.{empty_none}
use Rattle.iddqd_map.proofs.hashed_steps.new.Goals as goal

pub returns-clause-capacity : goal.returns-clause-capacity
returns-clause-capacity c =
    let none = empty_none c.new.result c.new.ensures.empty in
    omega (arith, none, c.new.ensures.memory.no_room)
