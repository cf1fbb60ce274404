use Rattle.iddqd_ord_map.proofs.OrderedIndexingLemmas.{Sorts-empty}
use Rattle.iddqd_ord_map.proofs.by_order.ByOrderOfEmpty.new.Goals as goal

pub returns-clause-none : goal.returns-clause-none
returns-clause-none g c = λ state limit. rw c.new.ensures.empty (Sorts-empty _ _ limit)
