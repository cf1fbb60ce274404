use Rattle.std.proofs.Common.{ap}
use Rattle.iddqd_groups.specs.LinkedTable.{LinkedState}
use Rattle.iddqd_groups.proofs.FilesLemmas.{FilesWithin-empty}
use Rattle.iddqd_groups.proofs.by_hash_multi.ByHashMultiOfUpkeep.clear.Goals as goal

pub returns-clause-none : goal.returns-clause-none
returns-clause-none g c = λ state limit.
    FilesWithin-empty _ _ limit c.clear.new.self (ap (λ (t : LinkedState). t.filed) c.clear.ensures)
    (ap (λ (t : LinkedState). t.slots) c.clear.ensures)
