use Rattle.std.proofs.Common.{◌≡◌, get_or, ◌∷◌}
use Rattle.iddqd_c.specs.Entries.{AnswersSpan, spans}
use Rattle.iddqd_c.proofs.ManyLemmas.{IsAnswered}
use Rattle.iddqd_c.proofs.keyed.many_first.fill.Given as goal

abbrev pub invariant-loop-at : goal.invariant-loop-at
invariant-loop-at g l =
    IsAnswered (AnswersSpan l.fn.keyed.entries l.fn.bytes) (spans l.fn.ends) l.at l.fn.rows l.rows
    × (l.start ≡ get_or (0 ∷ l.fn.ends) l.at 0)
