use Rattle.iddqd_tri.proofs.ClashLemmas.{AreInOrder-sorted, IsOneOf-sorted}
use Rattle.iddqd_tri.proofs.clashes.Clashes.of.Goals as goal

pub returns-clause-ordered : goal.returns-clause-ordered
returns-clause-ordered c =
    let a = c.in_order-first.ensures in
    let b = c.in_order-first-2.ensures in
    let d = c.in_order-second.ensures in
    AreInOrder-sorted _ _ _ _ _ _ _ _ _ a.ordered a.same b.ordered b.same d.ordered d.same

pub returns-clause-same : goal.returns-clause-same
returns-clause-same c =
    let a = c.in_order-first.ensures in
    let b = c.in_order-first-2.ensures in
    let d = c.in_order-second.ensures in
    IsOneOf-sorted _ _ _ _ _ _ _ _ _ a.ordered a.same b.ordered b.same d.ordered d.same
