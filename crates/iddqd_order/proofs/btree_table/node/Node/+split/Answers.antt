use Rattle.iddqd_order.proofs.Names.{most_children}
use Rattle.std.proofs.Common.{refl, rules, ◌≡◌, ◌+◌, ◌-◌, arith, ◌∙◌, vec_len}
use Rattle.iddqd_order.specs.declared.btree_table.node.Node.TheViews.{out-Node, roll-Node, out-roll-Node}
use Rattle.iddqd_order.proofs.NodeLemmas.{goes-inner, row-roll, children-roll, room-from}
use Rattle.iddqd_order.proofs.InsertLemmas.{is_taken, taken, split_leaf, split_here, leaf_place, full_row, full_child, all_full}
use Rattle.iddqd_order.proofs.btree_table.node.Node.+split.Goals as goal

pub split-middle-requires-clause-full : goal.split-middle-requires-clause-full
split-middle-requires-clause-full t c = full_row _ _ _ c.requires.formed c.requires.full

pub split-middle-requires-clause-in_bounds : goal.split-middle-requires-clause-in_bounds
split-middle-requires-clause-in_bounds t c = rw c.get-i.ensures (leaf_place _ _ _ c.if-height-eq0.true c.requires.goes)

pub returns-then-height-eq0 : goal.returns-then-height-eq0
returns-then-height-eq0 t c =
    let zero = c.if-height-eq0.true in
    let k = split_leaf c.args.height c.args.self.now (roll-Node (record { row = c.split-middle.new.self; children = (out-Node c.args.self.now).children })) c.split-middle.result.0 (roll-Node (record { row = c.split-middle.result.1; children = c.new.result })) c.args.path.now c.get-i.result c.args.ix
    zero c.requires.formed c.requires.goes c.get-i.ensures (simp row-roll c.split-middle.ensures) (children-roll _)
    (children-roll _ ∙ c.new.ensures.items) in
    record {
      items = k.items;
      low = k.low;
      high = k.high;
      inner = k.inner;
      counted = omega arith;
      reserved = refl;
      left = omega arith;
    }

pub index_mut-requires : goal.index_mut-requires
index_mut-requires t c =
    let g = goes-inner _ _ _ c.if-height-eq0.false c.requires.goes in rw c.get-i.ensures (search (rules, g.here))

pub split-middle-requires-2 : goal.split-middle-requires-2
split-middle-requires-2 t c =
    let k = is_taken c.args.height _ _ _ c.index_mut.result.now c.if-height-eq0.false c.requires.formed c.requires.goes c.get-i.ensures c.index_mut.ensures.value in
    let b = taken _ _ _ _ _ k in
    let full =
    all_full _ (c.args.height - 1 + 1) _ _ _ (omega arith) (omega arith)
    (full_child _ _ _ _ _ _ k c.requires.full) in
    (omega arith, (omega arith, (b.formed, (b.goes, (full, (omega (arith, c.requires.enough), omega (arith, c.requires.fits)))))))

pub split_inner-middle-requires : goal.split_inner-middle-requires
split_inner-middle-requires t c =
    let b = taken _ _ _ _ _ (is_taken c.args.height _ _ _ c.index_mut.result.now c.if-height-eq0.false c.requires.formed c.requires.goes c.get-i.ensures c.index_mut.ensures.value) in
    let full = full_row _ _ _ c.requires.formed c.requires.full in let here = b.here in let one = b.node.one_more in
    let count : vec_len (out-Node c.args.self.now).children ≡ most_children = search (rules, one, full) in
    record {
      within = rw out-roll-Node (omega arith);
      full = rw out-roll-Node full;
      one_more = simp out-roll-Node count;
      has_room = simp out-roll-Node b.node.has_room;
      spare = c.take-children.ensures.block;
    }

pub returns : goal.returns
returns t c =
    let k = is_taken c.args.height _ _ _ c.index_mut.result.now c.if-height-eq0.false c.requires.formed c.requires.goes c.get-i.ensures c.index_mut.ensures.value in
    let d = c.split-middle-2.ensures in
    let e = simp out-roll-Node at c.split_inner-middle.ensures in
    let r = split_here c.args.height c.args.self.now (roll-Node (record { row = c.split_inner-middle.new.row; children = c.split_inner-middle.new.children })) c.split_inner-middle.result.0 (roll-Node (record { row = c.split_inner-middle.result.1; children = c.split_inner-middle.new.upper })) c.args.path.now c.args.ix c.get-i.result c.index_mut.result.now c.split-middle-2.new.self c.split-middle-2.result.0 c.split-middle-2.result.1 k
    (record { items = d.items; low = d.low; high = d.high; inner = d.inner }) (simp row-roll e.split)
    (simp children-roll e.parts) (simp (row-roll, children-roll) (search (rules, e.one_more)))
    (room-from _ e.has_room) (room-from _ e.other_room) in
    let taken = c.take-children.ensures in
    record {
      items = r.items;
      low = r.low;
      high = r.high;
      inner = r.inner;
      counted = omega (arith, d.counted, taken.one_more);
      reserved = taken.reserved ∙ d.reserved;
      left = omega (arith, d.left, taken.left);
    }
