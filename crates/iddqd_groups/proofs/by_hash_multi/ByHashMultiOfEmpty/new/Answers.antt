use Rattle.std.proofs.Common.{ap}
use Rattle.iddqd_groups.specs.LinkedTable.{LinkedState}
use Rattle.iddqd_groups.proofs.FilesLemmas.{FilesWithin-empty}
use Rattle.iddqd_groups.proofs.by_hash_multi.ByHashMultiOfEmpty.new.Goals as goal

pub returns-clause-none : goal.returns-clause-none
returns-clause-none g c = λ state limit.
    FilesWithin-empty _ _ limit c.new.result (ap (λ (t : LinkedState). t.filed) c.new.ensures)
    (ap (λ (t : LinkedState). t.slots) c.new.ensures)
