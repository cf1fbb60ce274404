use Rattle.iddqd_order.proofs.CursorLemmas.{IsAt-few}
use Rattle.iddqd_order.proofs.btree_table.into_iter.OwnedCursor.at_end.Goals as goal

pub of-requires : goal.of-requires
of-requires c = IsAt-few _ _ _ _ _ c.requires c.at_end-cursor.ensures.stands.at
