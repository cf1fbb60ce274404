use Rattle.iddqd_ord_map.proofs.by_order_multi.ByOrderMultiOfStepsAtHere.next_between.Goals as goal

pub returns-clause-next : goal.returns-clause-next
returns-clause-next g c = let is = c.next_between.ensures.next in rw c.requires.stands.index at is
