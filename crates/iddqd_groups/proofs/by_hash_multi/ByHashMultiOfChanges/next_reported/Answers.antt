use Rattle.iddqd_map.specs.NoConflict.{none_named}
use Rattle.iddqd_groups.proofs.by_hash_multi.ByHashMultiOfChanges.next_reported.Goals as goal

pub returns-clause-reported : goal.returns-clause-reported
returns-clause-reported g c = λ s item conflicts. absurd conflicts

pub returns-clause-some : goal.returns-clause-some
returns-clause-some g c = λ s item conflicts. absurd conflicts

pub returns-clause-few : goal.returns-clause-few
returns-clause-few g c = none_named
