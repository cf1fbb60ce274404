use Rattle.std.proofs.Common.{Some, codes, sym, ap, ◌∙◌}
use Rattle.iddqd_lines.specs.declared.line.Request.TheVariants.{Run, Validate}
use Rattle.iddqd_lines.proofs.ServeLemmas.{AnswersLine-other, Obeys-line, Obeys-request}
use Rattle.iddqd_lines.proofs.serve.obey.Goals as goal

pub returns-in_default-clause-obeys : goal.returns-in_default-clause-obeys
returns-in_default-clause-obeys g c = λ line is.
    Obeys-line _ g.O.Sink _ _ line (codes "bad line") c.put_line.result (AnswersLine-other _ _ line (sym c.in_default.is ∙ is)) c.put_line.ensures

pub returns-in-Run-clause-obeys : goal.returns-in-Run-clause-obeys
returns-in-Run-clause-obeys g c = λ line is.
    Obeys-request _ g.O.Sink _ _ line (Run c.in-Run.command) c.run.result (ap Some (sym c.in-Run.is) ∙ sym c.in-Some.is ∙ is) c.run.ensures

pub returns-in-Validate-clause-obeys : goal.returns-in-Validate-clause-obeys
returns-in-Validate-clause-obeys g c = λ line is.
    Obeys-request _ g.O.Sink _ _ line Validate c.check.result (ap Some (sym c.in-Validate.is) ∙ sym c.in-Some.is ∙ is) c.check.ensures
