use Rattle.std.proofs.lemmas.Bool.{true≢false}
use Rattle.std.proofs.Common.{arith}
use Rattle.std.proofs.lemmas.Grind.{common_steps}
use Rattle.iddqd_order.proofs.CursorLemmas.{IsAt-whole, IsGap-few, IsLeafParent-from}
use Rattle.iddqd_order.proofs.btree_table.cursor.Cursor.leave_leaf.Goals as goal

pub gap-path-requires : goal.gap-path-requires
gap-path-requires c =
    let few = IsGap-few _ _ c.in-Some.node _ _ c.in-Some.is c.requires.tree c.requires.gap in omega arith

pub returns-in-Front : goal.returns-in-Front
returns-in-Front c = record {
  next = grind (arith, common_steps);
  stands = (
      let e = c.in-Some-step_over.ensures in
      record {
        at = (IsAt-whole _ _ c.in-Some.node _ _ _ c.in-Some.is e.path e.over.goes e.over.leaf_is c.get-self.ensures).1;
        leaf_parent = tt;
      });
  unchanged = λ x. absurd (true≢false x);
}

pub returns-in-Back : goal.returns-in-Back
returns-in-Back c = record {
  next = grind (arith, common_steps);
  stands = (
      let e = c.in-Some-step_over.ensures in
      record {
        at = (IsAt-whole _ _ c.in-Some.node _ _ _ c.in-Some.is e.path e.over.goes e.over.leaf_is c.get-self.ensures).1;
        leaf_parent = IsLeafParent-from _ _ c.in-Some.node _ _ c.in-Some.is c.leaf_parent-self.ensures;
      });
  unchanged = λ x. absurd (true≢false x);
}

pub leaf_parent-self-requires-clause-formed : goal.leaf_parent-self-requires-clause-formed
leaf_parent-self-requires-clause-formed c = (rw c.in-Some.is at c.requires.tree).0

pub leaf_parent-self-requires-clause-levels : goal.leaf_parent-self-requires-clause-levels
leaf_parent-self-requires-clause-levels c = (rw c.in-Some.is at c.requires.tree).2
