use Rattle.std.proofs.Common.{arith}
use Rattle.std.proofs.lemmas.Grind.{common_steps}
use Rattle.iddqd_order.specs.IntoIter.{indexes_to_come}
use Rattle.iddqd_order.proofs.CursorLemmas.{left-back}
use Rattle.iddqd_order.proofs.TreeLemmas.{place_in-within}
use Rattle.iddqd_order.proofs.btree_table.into_iter.IntoIterDoubleEndedIterator.next_back.Goals as goal

pub invariant_of-self : goal.invariant_of-self
invariant_of-self c =
    let i = c.self.invariant in
    (i.0, i.1, c.next_back.ensures.at, (left-back _ _ _ _ _ _ c.if-self-eq0.false i.3 (place_in-within _ _ _ i.0 i.2.gap.goes) c.next_back.ensures.next).0)

pub returns-clause-steps : goal.returns-clause-steps
unfolding indexes_to_come
returns-clause-steps c =
    let i = c.self.invariant in
    rw (← c.self.view_is)
    (left-back _ _ _ _ _ _ c.if-self-eq0.false i.3 (place_in-within _ _ _ i.0 i.2.gap.goes) c.next_back.ensures.next).1

pub returns-clause-goes : goal.returns-clause-goes
unfolding indexes_to_come
returns-clause-goes c = let steps = returns-clause-steps c in grind (arith, common_steps)
