use Rattle.std.proofs.Common.{rules, subst}
use Rattle.iddqd_keys.specs.Scan.{AnswersScan}
use Rattle.iddqd_c.proofs.keyed.replaces.other_than.Goals as goal

pub returns-in_err-at : goal.returns-in_err-at
returns-in_err-at c s test scan =
    let missed = subst (AnswersScan s test) c.in_err-at.was scan in
    rw c.from_residual.ensures (λ j hit. absurd (missed j hit))

pub returns-then-eq : goal.returns-then-eq
returns-then-eq c s test scan j hit =
    let here = subst (AnswersScan s test) c.in_ok-at.was scan in
    search (rules, (here j).0 hit, c.if-eq.ensures)
