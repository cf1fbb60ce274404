use Rattle.std.proofs.Common.{rules, ◌≡◌, ◌+◌, ◌-◌, length, arith, ◌∙◌, vec_len}
use Rattle.iddqd_order.specs.declared.btree_table.node.Node.TheViews.{out-Node, roll-Node, out-roll-Node}
use Rattle.iddqd_order.specs.Node.{row}
use Rattle.iddqd_order.proofs.NodeLemmas.{goes-inner, full-here, row-roll, children-roll, room-from}
use Rattle.iddqd_order.proofs.InsertLemmas.{is_taken, taken, put_below, put_here, full_child, all_full}
use Rattle.iddqd_order.proofs.btree_table.node.Node.+put_through_full.Goals as goal

pub index_mut-requires : goal.index_mut-requires
index_mut-requires t c =
    let more = c.if-height-full.true in
    let g = goes-inner _ _ _ (λ e. absurd (omega arith)) c.requires.goes in
    rw c.get-i.ensures (search (rules, g.here))

pub put_through_full-requires : goal.put_through_full-requires
put_through_full-requires t c =
    let k =
    is_taken c.args.height _ _ _ c.index_mut.result.now
    (λ e. absurd (omega arith)) c.requires.formed c.requires.goes c.get-i.ensures c.index_mut.ensures.value in
    let b = taken _ _ _ _ _ k in let more = c.if-height-full.true in
    (omega arith, (omega arith, (c.requires.some, (omega arith, (b.formed, (b.goes, (full_child _ _ _ _ _ _ k c.requires.full, (c.requires.enough, c.requires.fits))))))))

pub index_mut-requires-else-height-full : goal.index_mut-requires-else-height-full
index_mut-requires-else-height-full t c =
    let some = c.requires.some in
    let g = goes-inner _ _ _ (λ e. absurd (omega arith)) c.requires.goes in
    rw c.get-i.ensures (search (rules, g.here))

pub split-middle-requires : goal.split-middle-requires
split-middle-requires t c =
    let some = c.requires.some in
    let not_all = c.requires.not_all in
    let here = c.if-height-full.false in
    let enough = c.requires.enough in
    let fits = c.requires.fits in
    let k = is_taken c.args.height _ _ _ c.index_mut-else-height-full.result.now (λ e. absurd (omega arith)) c.requires.formed c.requires.goes c.get-i.ensures c.index_mut-else-height-full.ensures.value in
    let b = taken _ _ _ _ _ k in
    record {
      levels = omega arith;
      formed = b.formed;
      goes = b.goes;
      full =
          all_full _ (c.args.height - 1 + 1) _ _ _ (omega arith) (omega arith)
          (full_child _ _ _ _ _ _ k c.requires.full);
      enough = omega arith;
      fits = omega arith;
    }

pub put_between-requires : goal.put_between-requires
put_between-requires t c =
    let some = c.requires.some in let not_all = c.requires.not_all in let last = c.if-height-full.false in
    let b = taken _ _ _ _ _ (is_taken c.args.height _ _ _ c.index_mut-else-height-full.result.now (λ e. absurd (omega arith)) c.requires.formed c.requires.goes c.get-i.ensures c.index_mut-else-height-full.ensures.value) in
    let here = b.here in let one = b.node.one_more in
    let room = (full-here _ _ _ _ c.requires.full).1 (omega arith) in
    let count : vec_len (out-Node c.args.self.now).children ≡ length (row c.args.self.now) + 1 = search (rules, one) in
    record {
      within = rw out-roll-Node (omega arith);
      room = rw out-roll-Node room;
      one_more = simp out-roll-Node count;
      has_room = simp out-roll-Node b.node.has_room;
    }

pub returns-then-height-full : goal.returns-then-height-full
returns-then-height-full t c = record {
  put = (
      let k =
      is_taken c.args.height _ _ _ c.index_mut.result.now
      (λ e. absurd (omega arith)) c.requires.formed c.requires.goes c.get-i.ensures c.index_mut.ensures.value in
      put_below c.args.height c.args.self.now (roll-Node _) c.args.path.now c.args.ix c.get-i.result c.index_mut.result.now c.put_through_full.new.self k c.put_through_full.ensures.put
      (row-roll _) (children-roll _) (room-from _ (taken _ _ _ _ _ k).node.has_room));
  counted = search rules;
  reserved = c.put_through_full.ensures.reserved;
}

pub returns-else-height-full : goal.returns-else-height-full
returns-else-height-full t c = record {
  put = (
      let some = c.requires.some in let not_all = c.requires.not_all in let last = c.if-height-full.false in
      let k = is_taken c.args.height _ _ _ c.index_mut-else-height-full.result.now (λ e. absurd (omega arith)) c.requires.formed c.requires.goes c.get-i.ensures c.index_mut-else-height-full.ensures.value in
      let e = simp out-roll-Node at c.put_between.ensures in
      let level : c.args.full - 1 ≡ c.args.height - 1 = omega arith in
      rw level (put_here c.args.height c.args.self.now (roll-Node _) c.args.path.now c.args.ix c.get-i.result c.index_mut-else-height-full.result.now c.split-middle.new.self c.split-middle.result.0 c.split-middle.result.1 k
      (record { items = c.split-middle.ensures.items; low = c.split-middle.ensures.low; high = c.split-middle.ensures.high; inner = c.split-middle.ensures.inner }) ((full-here _ _ _ _ c.requires.full).1 (omega arith)) (row-roll _ ∙ e.row) (children-roll _ ∙ e.children) (room-from _ e.has_room)));
  counted = omega arith;
  reserved = c.split-middle.ensures.reserved;
}
