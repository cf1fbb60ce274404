use Rattle.iddqd_order.proofs.Names.{eqb-true}
use Rattle.iddqd_order.specs.Range.{indexes_ahead}
use Rattle.iddqd_order.proofs.CursorLemmas.{at-agree, at-same}
use Rattle.iddqd_order.proofs.RangeLemmas.{part-empty}
use Rattle.iddqd_order.proofs.TreeLemmas.{place_in-within}
use Rattle.iddqd_order.proofs.btree_table.range.Range.has_ended.Goals as goal

pub returns-then-self : goal.returns-then-self
unfolding indexes_ahead
returns-then-self c =
    let i = c.self.invariant in
    let none = part-empty _ _ _ i.3 (place_in-within _ _ _ i.0 i.2.at.gap.goes) in
    let one = at-agree _ _ _ _ _ _ _ _ i.0 i.1.at i.2.at c.if-self.true in
    rw (← c.self.view_is) (
      λ t. none.0 (one.0 (c.agrees.ensures.0 t)),
      λ e. c.agrees.ensures.1 (one.1 (none.1 e)),
    )

pub returns-else-self : goal.returns-else-self
unfolding indexes_ahead
returns-else-self c =
    let i = c.self.invariant in
    rw (← c.self.view_is) (
      λ t. absurd (c.if-self.false (eqb-true _ _ t)),
      λ none. absurd (c.if-self.false (at-same _ _ _ _ _ _ _ _ i.0 i.1.at i.2.at ((part-empty _ _ _ i.3 (place_in-within _ _ _ i.0 i.2.at.gap.goes)).1 none))),
    )
