use Rattle.iddqd_ord_map.proofs.SortedScanLemmas.{IsSortedScan-empty}
use Rattle.iddqd_ord_map.proofs.by_order_multi.ByOrderMultiOfUpkeep.with_capacity.Goals as goal

pub returns-clause-none : goal.returns-clause-none
returns-clause-none g c = λ state limit. rw c.in_ok-with_capacity.ensures.empty (IsSortedScan-empty _ _ limit)
