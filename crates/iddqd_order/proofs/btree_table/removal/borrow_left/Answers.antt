use Rattle.iddqd_order.proofs.Names.{◌≡◌, ◌+◌, ◌∙◌, get_or, arith, rules, get_or-set_other}
use Rattle.iddqd_order.proofs.MendLemmas.{neighbours, room-for-one, moved-right}
use Rattle.iddqd_order.proofs.RecountLemmas.{inners-moved, inners-two_set}
use Rattle.iddqd_order.proofs.btree_table.removal.borrow_left.Goals as goal

pub put_first-requires-clause-room : goal.put_first-requires-clause-room
put_first-requires-clause-room c =
    let l = c.index_mut.result.now in
    let r = c.index_mut-2.result.now in
    let f = c.requires.lacks.1 in
    let here = f.here in
    let one = f.one_more in
    let right : r ≡ get_or c.args.children.now.items (c.args.left + 1) r =
    c.index_mut-2.ensures.value
    ∙ get_or-set_other _ c.args.left (c.args.left + 1) _ r (λ e. absurd (omega arith)) in
    let n =
    neighbours c.requires.lacks.0 c.args.left (c.args.left + 1) _ _ l r (omega arith) (omega arith)
    (omega arith) f (search rules) right in
    room-for-one c.requires.lacks.0 l r _ n.left_is.1 n.right_is.1
    (rw right (c.requires.too_few r)) c.take_last-last.ensures.child

pub returns : goal.returns
returns c = record {
  inners = λ h.
      let l = c.index_mut.result.now in
      let r = c.index_mut-2.result.now in
      let f = c.requires.lacks.1 in
      let here = f.here in
      inners-two_set h c.args.left
      (c.args.left + 1) c.args.children.now.items l r c.take_last-last.new.self c.put_first.new.self (omega arith)
      (omega arith) (search rules) (search rules)
      (inners-moved h l r c.take_last-last.new.self c.put_first.new.self _ c.take_last-last.ensures.children c.put_first.ensures.children);
  mended = λ h f.
      let last = c.take_last-last.ensures in
      let first = c.put_first.ensures in
      let here = f.here in
      let one = f.one_more in
      let l = c.index_mut.result.now in let r = c.index_mut-2.result.now in
      let right : r ≡ get_or c.args.children.now.items (c.args.left + 1) r =
      c.index_mut-2.ensures.value
      ∙ get_or-set_other _ c.args.left (c.args.left + 1) _ r (λ e. absurd (omega arith)) in
      let n =
      neighbours h c.args.left (c.args.left + 1) _ _ l r (omega arith) (omega arith) (omega arith) f
      (search rules) right in
      rw c.set.ensures (moved-right h c.args.left c.args.row.now c.args.children.now.items l r c.take_last-last.new.self c.put_first.new.self c.get-middle.result c.take_last-last.result.0 c.take_last-last.result.1 n
      (rw n.left (c.requires.more l)) (rw right (c.requires.too_few r)) (search rules) (record { left = last.row; right = first.row; left_children = last.children; right_children = first.children }) last.child last.room first.room);
  capacity = search rules;
}
