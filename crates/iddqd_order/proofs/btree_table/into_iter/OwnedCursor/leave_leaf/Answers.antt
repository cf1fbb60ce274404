use Rattle.iddqd_order.proofs.Names.{refl, ◌∙◌}
use Rattle.iddqd_order.proofs.CursorLemmas.{IsAt-few, IsAt-low, IsAt-whole}
use Rattle.iddqd_order.proofs.btree_table.into_iter.OwnedCursor.leave_leaf.Goals as goal

pub set-requires-clause-place : goal.set-requires-clause-place
set-requires-clause-place c = IsAt-low _ _ _ _ _ c.requires.tree c.requires.at

pub of-self-requires : goal.of-self-requires
of-self-requires c =
    let e = c.in-Some-step_over.ensures in
    IsAt-few _ _ _ _ _ c.requires.tree (IsAt-whole _ _ c.in-Some.node _ _ _ c.in-Some.is e.path e.over.goes e.over.leaf_is refl).1

pub returns-clause-at : goal.returns-clause-at
returns-clause-at c =
    let e = c.in-Some-step_over.ensures in
    (IsAt-whole _ _ c.in-Some.node _ _ _ c.in-Some.is e.path e.over.goes (c.of-self.ensures ∙ e.over.leaf_is) c.get-self.ensures).1
