use Rattle.std.proofs.Common.{inl, inr, arith}
use Rattle.iddqd_lines.proofs.LineLemmas.{other_numbers}
use Rattle.iddqd_lines.proofs.line.command.Goals as goal

pub returns-in-len2 : goal.returns-in-len2
returns-in-len2 c = other_numbers c.args.verb.now c.args.numbers.now (inl (omega arith))

pub returns-in_default : goal.returns-in_default
returns-in_default c = other_numbers c.args.verb.now c.args.numbers.now (inr (omega arith))
