use Rattle.std.proofs.Common.{◌≡◌, ◌++◌}
use Rattle.std.specs.Fmt.{decimal}
use Rattle.iddqd_lines.proofs.digits.Digits.of.Given as goal

-- the digits of what is left, and then those that stand
abbrev pub invariant-loop-rest : goal.invariant-loop-rest
invariant-loop-rest l = decimal l.rest ++ l.digits ≡ decimal l.number

abbrev pub decreases-loop-rest : goal.decreases-loop-rest
decreases-loop-rest l = l.rest
