use Rattle.std.proofs.Common.{◌<◌, length, arith}
use Rattle.iddqd_order.proofs.CursorLemmas.{steps-ahead}
use Rattle.iddqd_order.proofs.btree_table.into_iter.OwnedCursor.next.Goals as goal

pub returns-then-self-len-clause-at : goal.returns-then-self-len-clause-at
returns-then-self-len-clause-at c =
    let len = c.len.ensures.length in
    let test = c.if-self-len.true in
    let lt : c.args.self.now.at < length c.args.self.now.row = omega arith in
    (steps-ahead _ _ _ _ _ _ c.requires.tree c.requires.at lt c.get-ix.ensures).0

pub returns-then-self-len-clause-next : goal.returns-then-self-len-clause-next
returns-then-self-len-clause-next c =
    let len = c.len.ensures.length in
    let test = c.if-self-len.true in
    let lt : c.args.self.now.at < length c.args.self.now.row = omega arith in
    (steps-ahead _ _ _ _ _ _ c.requires.tree c.requires.at lt c.get-ix.ensures).1
