use Rattle.iddqd_c.proofs.CopyLemmas.{IsCopied}
use Rattle.iddqd_c.proofs.layer.finds.list.Given as goal

abbrev pub invariant-loop-at : goal.invariant-loop-at
invariant-loop-at l = IsCopied l.initial.found l.found l.at l.fn.indexes l.indexes
