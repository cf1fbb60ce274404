use Rattle.iddqd_groups.proofs.FilesLemmas.{FilesWithin-empty}
use Rattle.iddqd_groups.proofs.by_hash_multi.ByHashMultiOfUpkeep.with_capacity.Goals as goal

pub returns-clause-none : goal.returns-clause-none
returns-clause-none g c = λ state limit.
    FilesWithin-empty _ _ limit c.in_ok-with_capacity.field-0 c.in_ok-with_capacity.ensures.empty
    c.in_ok-with_capacity.ensures.slots
