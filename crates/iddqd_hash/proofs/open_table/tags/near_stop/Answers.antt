use Rattle.std.proofs.Common.{arith}
use Rattle.std.proofs.Math.Nat.{mod-eq_of_lt}
use Rattle.iddqd_hash.proofs.OpenSkipLemmas.{Skips-run}
use Rattle.iddqd_hash.proofs.open_table.tags.near_stop.Goals as goal

pub returns-then-run-lt16-clause-skips : goal.returns-then-run-lt16-clause-skips
returns-then-run-lt16-clause-skips c =
    Skips-run _ _ _ _ _ c.first_stop-run.ensures.inside c.first_stop-run.ensures.others (mod-eq_of_lt (omega arith))
