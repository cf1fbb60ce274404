use Rattle.std.specs.Prelude.{drop}
use Rattle.iddqd_codes.proofs.FillLemmas.{IsFilled}
use Rattle.iddqd_c.proofs.layer.steps.copy_row.Given as goal

abbrev pub invariant-loop-at : goal.invariant-loop-at
invariant-loop-at l = IsFilled (λ n. n) l.fn.items (drop l.at l.fn.items) l.at l.fn.row l.row
