use Rattle.std.proofs.Common.{◌-◌, ◌<◌, length, arith}
use Rattle.iddqd_order.proofs.Names.{get_or_default}
use Rattle.iddqd_order.proofs.CursorLemmas.{steps-back}
use Rattle.iddqd_order.proofs.btree_table.cursor.Cursor.next_back.Goals as goal

pub returns-then-self-gt0-clause-stands : goal.returns-then-self-gt0-clause-stands
returns-then-self-gt0-clause-stands c =
    let within = c.requires.stands.at.within in
    let lt : c.args.self.now.at - 1 < length c.args.self.now.row.now = omega arith in
    record { at = (steps-back _ _ _ _ _ _ c.requires.tree c.requires.stands.at c.if-self-gt0.true (get_or_default _ _ c.index-self-self.result 0 lt)).0; leaf_parent = c.requires.stands.leaf_parent }

pub returns-then-self-gt0-clause-next : goal.returns-then-self-gt0-clause-next
returns-then-self-gt0-clause-next c =
    let within = c.requires.stands.at.within in
    let lt : c.args.self.now.at - 1 < length c.args.self.now.row.now = omega arith in
    (steps-back _ _ _ _ _ _ c.requires.tree c.requires.stands.at c.if-self-gt0.true (get_or_default _ _ c.index-self-self.result 0 lt)).1
