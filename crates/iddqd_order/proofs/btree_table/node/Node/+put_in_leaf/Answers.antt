use Rattle.iddqd_order.proofs.Names.{rules, arith, ◌∙◌, roll-Node}
use Rattle.iddqd_order.proofs.NodeLemmas.{goes-inner, full-here, row-roll, children-roll, room-from}
use Rattle.iddqd_order.proofs.InsertLemmas.{is_taken, taken, put_leaf, put_below, leaf_place, full_child}
use Rattle.iddqd_order.proofs.btree_table.node.Node.+put_in_leaf.Goals as goal

pub insert-requires-clause-in_bounds : goal.insert-requires-clause-in_bounds
insert-requires-clause-in_bounds t c = rw c.get-i.ensures (leaf_place _ _ _ c.if-height-eq0.true c.requires.goes)

pub insert-requires-clause-room : goal.insert-requires-clause-room
insert-requires-clause-room t c = (full-here _ _ _ _ c.requires.room).1 c.if-height-eq0.true

pub index_mut-requires : goal.index_mut-requires
index_mut-requires t c =
    let g = goes-inner _ _ _ c.if-height-eq0.false c.requires.goes in rw c.get-i.ensures (search (rules, g.here))

pub put_in_leaf-requires : goal.put_in_leaf-requires
put_in_leaf-requires t c =
    let k = is_taken c.args.height _ _ _ c.index_mut.result.now c.if-height-eq0.false c.requires.formed c.requires.goes c.get-i.ensures c.index_mut.ensures.value in
    let b = taken _ _ _ _ _ k in
    (omega arith, (omega arith, (b.formed, (b.goes, full_child _ _ _ _ _ _ k c.requires.room))))

pub returns-then-height-eq0 : goal.returns-then-height-eq0
returns-then-height-eq0 t c =
    let room = (full-here _ _ _ _ c.requires.room).1 c.if-height-eq0.true in
    put_leaf c.args.height c.args.self.now (roll-Node _) c.args.path.now c.get-i.result c.args.ix c.if-height-eq0.true c.requires.formed c.requires.goes c.get-i.ensures room (row-roll _ ∙ c.insert.ensures) (children-roll _)

pub returns-else-height-eq0 : goal.returns-else-height-eq0
returns-else-height-eq0 t c =
    let k = is_taken c.args.height _ _ _ c.index_mut.result.now c.if-height-eq0.false c.requires.formed c.requires.goes c.get-i.ensures c.index_mut.ensures.value in
    put_below c.args.height c.args.self.now (roll-Node _) c.args.path.now c.args.ix c.get-i.result c.index_mut.result.now c.put_in_leaf.new.self k c.put_in_leaf.ensures
    (row-roll _) (children-roll _) (room-from _ (taken _ _ _ _ _ k).node.has_room)
