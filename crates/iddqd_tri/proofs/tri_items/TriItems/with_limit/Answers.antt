use Rattle.std.proofs.Common.{arith}
use Rattle.iddqd_tri.proofs.TriLemmas.{IsTriState-empty}
use Rattle.iddqd_tri.proofs.tri_items.TriItems.with_limit.Goals as goal

pub invariant_of-result : goal.invariant_of-result
invariant_of-result g c =
    rw (c.with_limit.ensures, c.new.ensures.maps) (IsTriState-empty _ c.args.limit c.args.state (omega arith))

pub returns-clause-state : goal.returns-clause-state
returns-clause-state g c =
    rw (c.with_limit.ensures, c.new.ensures.maps) (IsTriState-empty _ c.args.limit c.args.state (omega arith))
