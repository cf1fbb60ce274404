use Rattle.iddqd_ord_map.proofs.by_order.ByOrderOfUpkeep.copied.Goals as goal

pub returns-clause-contents : goal.returns-clause-contents
returns-clause-contents g c = λ state s is. rw c.in_ok-clone.ensures.cases.0 is
