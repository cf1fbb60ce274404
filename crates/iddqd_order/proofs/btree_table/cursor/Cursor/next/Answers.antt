use Rattle.iddqd_order.proofs.CursorLemmas.{steps-ahead}
use Rattle.iddqd_order.proofs.btree_table.cursor.Cursor.next.Goals as goal

pub returns-in-Some-clause-stands : goal.returns-in-Some-clause-stands
returns-in-Some-clause-stands c =
    let there = c.in-Some.ensures.lookup.3 in
    record {
      at = (steps-ahead _ _ _ _ _ _ c.requires.tree c.requires.stands.at there.0 (there.1 0)).0;
      leaf_parent = c.requires.stands.leaf_parent;
    }

pub returns-in-Some-clause-next : goal.returns-in-Some-clause-next
returns-in-Some-clause-next c =
    let there = c.in-Some.ensures.lookup.3 in
    (steps-ahead _ _ _ _ _ _ c.requires.tree c.requires.stands.at there.0 (there.1 0)).1
