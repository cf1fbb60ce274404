use Rattle.iddqd_ord_map.proofs.SortedScanLemmas.{IsSortedScan-empty}
use Rattle.iddqd_ord_map.proofs.by_order_multi.ByOrderMultiOfEmpty.new.Goals as goal

pub returns-clause-none : goal.returns-clause-none
returns-clause-none g c = λ state limit. rw c.new.ensures.empty (IsSortedScan-empty _ _ limit)
