use Rattle.iddqd_order.proofs.Names.{◌≡◌, ◌+◌, ◌≤◌, ◌∙◌, length, arith, sym, ap, slice_set}
use Rattle.iddqd_order.specs.MapBTreeTable.{order_of}
use Rattle.iddqd_order.specs.Stepping.{row_of, low_in}
use Rattle.iddqd_order.proofs.SteppingLemmas.{gap-of}
use Rattle.iddqd_order.proofs.TreeLemmas.{place_in-within}
use Rattle.iddqd_order.proofs.btree_table.table.MapBTreeTable.gap_in.Goals as goal

pub fullness_in-full-requires-clause-goes : goal.fullness_in-full-requires-clause-goes
fullness_in-full-requires-clause-goes c =
    let is = c.in_ok-row.ensures.row in
    let within : c.args.place ≤ length (row_of c.args.self.now c.args.leaf.now) = rw is at c.if-place-row.false in
    let leaf : c.args.leaf.now.level ≡ 0 = omega arith in
    let set : c.set.new.self ≡ slice_set c.args.leaf.now.path 0 c.args.place =
    rw c.copied-path.ensures.same at c.set.ensures.place in
    let g = gap-of c.args.self.now c.args.leaf.now.path c.set.new.self c.args.leaf.now.level c.args.place
    c.in_ok-row.ensures.node leaf within set c.set.ensures.length in
    rw (c.tree-height.ensures.root, c.tree-height.ensures.height) g.goes

pub returns-clause-fits : goal.returns-clause-fits
returns-clause-fits c =
    let is = c.in_ok-row.ensures.row in
    let within : c.args.place ≤ length (row_of c.args.self.now c.args.leaf.now) = rw is at c.if-place-row.false in
    let leaf : c.args.leaf.now.level ≡ 0 = omega arith in
    let set : c.set.new.self ≡ slice_set c.args.leaf.now.path 0 c.args.place =
    rw c.copied-path.ensures.same at c.set.ensures.place in
    let g = gap-of c.args.self.now c.args.leaf.now.path c.set.new.self c.args.leaf.now.level c.args.place
    c.in_ok-row.ensures.node leaf within set c.set.ensures.length in
    let full = rw (c.tree-height.ensures.root, c.tree-height.ensures.height) at c.fullness_in-full.ensures.full in
    let levels = c.fullness_in-full.ensures.levels in
    let high = c.tree-height.ensures.height in
    record { tree = c.tree-height.ensures.tree; goes = g.goes; full = full; levels = omega arith }

pub returns-clause-place : goal.returns-clause-place
returns-clause-place c =
    let is = c.in_ok-row.ensures.row in
    let within : c.args.place ≤ length (row_of c.args.self.now c.args.leaf.now) = rw is at c.if-place-row.false in
    let leaf : c.args.leaf.now.level ≡ 0 = omega arith in
    let set : c.set.new.self ≡ slice_set c.args.leaf.now.path 0 c.args.place =
    rw c.copied-path.ensures.same at c.set.ensures.place in
    let g = gap-of c.args.self.now c.args.leaf.now.path c.set.new.self c.args.leaf.now.level c.args.place
    c.in_ok-row.ensures.node leaf within set c.set.ensures.length in
    g.place_is ∙ ap (λ z. low_in z c.args.self.now.root c.args.self.now.height c.args.leaf.now.path + c.args.place)
    (sym leaf)

pub returns-clause-leaf : goal.returns-clause-leaf
returns-clause-leaf c =
    let is = c.in_ok-row.ensures.row in
    let within : c.args.place ≤ length (row_of c.args.self.now c.args.leaf.now) = rw is at c.if-place-row.false in
    record { is_node = c.in_ok-row.ensures.node; level = omega arith; place = within }

pub returns-clause-within : goal.returns-clause-within
unfolding order_of
returns-clause-within c =
    let is = c.in_ok-row.ensures.row in
    let within : c.args.place ≤ length (row_of c.args.self.now c.args.leaf.now) = rw is at c.if-place-row.false in
    let leaf : c.args.leaf.now.level ≡ 0 = omega arith in
    let set : c.set.new.self ≡ slice_set c.args.leaf.now.path 0 c.args.place =
    rw c.copied-path.ensures.same at c.set.ensures.place in
    let g = gap-of c.args.self.now c.args.leaf.now.path c.set.new.self c.args.leaf.now.level c.args.place
    c.in_ok-row.ensures.node leaf within set c.set.ensures.length in
    place_in-within c.args.self.now.root c.args.self.now.height c.set.new.self c.tree-height.ensures.tree g.goes
