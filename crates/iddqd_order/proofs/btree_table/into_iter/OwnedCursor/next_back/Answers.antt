use Rattle.iddqd_order.proofs.CursorLemmas.{steps-back}
use Rattle.iddqd_order.proofs.btree_table.into_iter.OwnedCursor.next_back.Goals as goal

pub returns-then-self-gt0-clause-at : goal.returns-then-self-gt0-clause-at
returns-then-self-gt0-clause-at c =
    (steps-back _ _ _ _ _ _ c.requires.tree c.requires.at c.if-self-gt0.true c.get.ensures).0

pub returns-then-self-gt0-clause-next : goal.returns-then-self-gt0-clause-next
returns-then-self-gt0-clause-next c =
    (steps-back _ _ _ _ _ _ c.requires.tree c.requires.at c.if-self-gt0.true c.get.ensures).1
