use Rattle.iddqd_c.specs.Entries.{AnswersSecond}
use Rattle.iddqd_c.proofs.ManyLemmas.{IsAnswered}
use Rattle.iddqd_c.proofs.keyed.many.fill.Given as goal

abbrev pub invariant-loop-at : goal.invariant-loop-at
invariant-loop-at g l = IsAnswered (AnswersSecond l.fn.keyed.entries) l.fn.seconds l.at l.fn.rows l.rows
