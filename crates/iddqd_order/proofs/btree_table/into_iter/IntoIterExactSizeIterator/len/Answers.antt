use Rattle.std.proofs.Common.{sym}
use Rattle.iddqd_order.specs.IntoIter.{indexes_to_come}
use Rattle.iddqd_order.proofs.CursorLemmas.{left-length}
use Rattle.iddqd_order.proofs.TreeLemmas.{place_in-within}
use Rattle.iddqd_order.proofs.btree_table.into_iter.IntoIterExactSizeIterator.len.Goals as goal

pub returns-clause-value : goal.returns-clause-value
unfolding indexes_to_come
returns-clause-value c =
    let i = c.self.invariant in
    rw (← c.self.view_is) (sym (left-length _ _ _ _ i.3 (place_in-within _ _ _ i.0 i.2.gap.goes)))
