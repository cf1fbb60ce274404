use Rattle.std.proofs.Common.{◌≡◌, length}
use Rattle.std.specs.Prelude.{filter}
use Rattle.iddqd_c.specs.Ranges.{along, lies_between}
use Rattle.iddqd_c.proofs.keyed.ranges.next_between.Given as goal

-- none of the entries before those that are left lies between the ends
abbrev pub invariant-passing : goal.invariant-passing
invariant-passing l =
    filter (lies_between l.fn.from l.fn.to) (along l.fn.direction l.fn.range)
    ≡ filter (lies_between l.fn.from l.fn.to) (along l.fn.direction l.range)

abbrev pub decreases-passing : goal.decreases-passing
decreases-passing l = length (along l.fn.direction l.range)
