use Rattle.std.proofs.Common.{arith}
use Rattle.std.proofs.lemmas.Grind.{common_steps}
use Rattle.iddqd.proofs.internal.ValidationErrorDisplay.fmt.Goals as goal

pub returns-in-Table-clause-writes : goal.returns-in-Table-clause-writes
returns-in-Table-clause-writes g c = grind (arith, common_steps)
