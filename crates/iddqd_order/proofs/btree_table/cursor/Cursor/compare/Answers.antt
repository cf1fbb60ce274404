use Rattle.std.proofs.Common.{arith}
use Rattle.iddqd_order.proofs.CursorLemmas.{IsAt-low}
use Rattle.iddqd_order.proofs.btree_table.cursor.Cursor.compare.Goals as goal

pub gap-requires : goal.gap-requires
gap-requires c = let low = IsAt-low _ _ _ _ _ c.requires.tree c.requires.stands.at in omega arith

pub gap-requires-in-Some : goal.gap-requires-in-Some
gap-requires-in-Some c = let low = IsAt-low _ _ _ _ _ c.requires.tree c.requires.other_stands.at in omega arith
