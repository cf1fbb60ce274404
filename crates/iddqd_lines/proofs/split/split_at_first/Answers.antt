use Rattle.std.proofs.Common.{sym}
use Rattle.iddqd_lines.proofs.SplitLemmas.{cut_at_first, none_first}
use Rattle.iddqd_lines.proofs.split.split_at_first.Goals as goal

pub returns-in-Some : goal.returns-in-Some
returns-in-Some c = cut_at_first _ _ _ (sym c.in-Some.ensures)

pub returns-in-None : goal.returns-in-None
returns-in-None c = none_first _ _ (sym c.in-None.ensures)
