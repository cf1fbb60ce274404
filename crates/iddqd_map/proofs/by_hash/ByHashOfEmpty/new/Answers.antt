use Rattle.iddqd_map.proofs.IndexingLemmas.{Indexes-empty}
use Rattle.iddqd_map.proofs.by_hash.ByHashOfEmpty.new.Goals as goal

pub returns-clause-none : goal.returns-clause-none
returns-clause-none g c = λ state limit. rw c.new.ensures.empty (Indexes-empty _ _ limit)
