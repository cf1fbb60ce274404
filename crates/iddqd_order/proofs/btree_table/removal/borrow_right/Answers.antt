use Rattle.iddqd_order.proofs.Names.{◌≡◌, ◌+◌, ◌∙◌, get_or, arith, rules, get_or-set_other}
use Rattle.iddqd_order.proofs.MendLemmas.{neighbours, room-for-one, moved-left}
use Rattle.iddqd_order.proofs.RecountLemmas.{inners-moved, inners-two_set}
use Rattle.iddqd_order.proofs.btree_table.removal.borrow_right.Goals as goal

pub put_last-requires-clause-room : goal.put_last-requires-clause-room
put_last-requires-clause-room c =
    let l = c.index_mut-2.result.now in let r = c.index_mut.result.now in
    let left : l ≡ get_or c.args.children.now.items c.args.left l =
    c.index_mut-2.ensures.value
    ∙ get_or-set_other _ (c.args.left + 1) c.args.left _ l (λ e. absurd (omega arith)) in
    let n =
    neighbours c.requires.lacks.0 c.args.left c.args.left _ _ l r (omega arith)
    (omega arith) c.requires.within c.requires.lacks.1 left (search rules) in
    room-for-one c.requires.lacks.0 r l _ n.right_is.1 n.left_is.1
    (rw left (c.requires.too_few l)) c.take_first-first.ensures.child

pub returns : goal.returns
returns c = record {
  mended = λ h f.
      let first = c.take_first-first.ensures in let last = c.put_last.ensures in
      let l = c.index_mut-2.result.now in let r = c.index_mut.result.now in
      let left : l ≡ get_or c.args.children.now.items c.args.left l =
      c.index_mut-2.ensures.value
      ∙ get_or-set_other _ (c.args.left + 1) c.args.left _ l (λ e. absurd (omega arith)) in
      let right : r ≡ get_or c.args.children.now.items (c.args.left + 1) r = search rules in
      let n = neighbours h c.args.left c.args.left _ _ l r (omega arith) (omega arith) c.requires.within f left right in
      rw c.set.ensures (moved-left h c.args.left c.args.row.now c.args.children.now.items l r c.put_last.new.self c.take_first-first.new.self c.get-middle.result c.take_first-first.result.0 c.take_first-first.result.1 n
      (rw right (c.requires.more r)) (rw left (c.requires.too_few l)) (search rules) (record { left = last.row; right = first.row; left_children = last.children; right_children = first.children }) first.child first.room last.room);
  inners = λ h.
      let l = c.index_mut-2.result.now in
      let r = c.index_mut.result.now in
      let one = c.requires.lacks.1.one_more in
      let within = c.requires.within in
      let moved = inners-moved h c.put_last.new.self c.take_first-first.new.self l r _ c.put_last.ensures.children c.take_first-first.ensures.children in
      inners-two_set h
      (c.args.left + 1) c.args.left c.args.children.now.items r l c.take_first-first.new.self c.put_last.new.self
      (omega arith) (omega arith) (search rules) (search rules) (omega (arith, moved));
  capacity = search rules;
}
