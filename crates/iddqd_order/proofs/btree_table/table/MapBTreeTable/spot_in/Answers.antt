use Rattle.iddqd_order.proofs.Names.{◌≡◌, ◌<◌, ◌∙◌, length, sym, slice_set, slice_index, eqb-true, get_or_default}
use Rattle.iddqd_order.specs.Stepping.{row_of}
use Rattle.iddqd_order.proofs.SteppingLemmas.{leads-at}
use Rattle.iddqd_order.proofs.btree_table.table.MapBTreeTable.spot_in.Goals as goal

pub returns-then-eq : goal.returns-then-eq
returns-then-eq c =
    let is = c.in_ok-row.ensures.row in
    let within : c.args.place < length (row_of c.args.self.now c.args.node.now) = rw is at c.if-place-row.false in
    let same : c.index-row-place.result ≡ c.args.ix = eqb-true c.index-row-place.result c.args.ix (sym c.eq.ensures ∙ c.if-eq.true) in
    let inside = c.if-place-row.false in
    let read : slice_index c.in_ok-row.row.now c.args.place ≡ c.args.ix =
    get_or_default c.in_ok-row.row.now c.args.place 0 c.index-row-place.result inside ∙ sym c.index-row-place.is ∙ same in
    let set : c.set.new.self ≡ slice_set c.args.node.now.path c.args.node.now.level c.args.place = rw c.copied-path.ensures.same at c.set.ensures.place in
    record { there = leads-at c.args.self.now c.args.node.now.path c.set.new.self c.args.node.now.level c.args.place c.args.ix c.tree-tree.ensures.tree c.in_ok-row.ensures.node within (rw is at read) c.in_ok-row.ensures.levels set c.set.ensures.length }
