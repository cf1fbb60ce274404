use Rattle.std.specs.Prelude.{drop}
use Rattle.iddqd_c.specs.Mixing.{mixed}
use Rattle.iddqd_codes.proofs.FillLemmas.{IsFilled}
use Rattle.iddqd_c.proofs.layer.hashes.mix_each.Given as goal

abbrev pub invariant-loop-at : goal.invariant-loop-at
invariant-loop-at l = IsFilled mixed l.fn.hashes (drop l.at l.fn.hashes) l.at l.fn.to l.to
