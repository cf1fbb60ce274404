use Rattle.iddqd_order.proofs.Names.{◌≡◌, ◌≤◌, ◌∙◌, length, arith, sym, ap}
use Rattle.iddqd_order.specs.Stepping.{row_of}
use Rattle.iddqd_order.proofs.SteppingLemmas.{is-at}
use Rattle.iddqd_order.proofs.btree_table.table.MapBTreeTable.cursor_in.Goals as goal

pub returns-clause-stands : goal.returns-clause-stands
returns-clause-stands c =
    let t = c.args.self.now in let p = c.args.leaf.now.path in
    let is = c.in_ok-row.ensures.row in
    let within : c.args.place ≤ length (row_of t c.args.leaf.now) = rw is at c.if-place-row.false in
    let long : length p ≡ 12 = ap length (sym c.copied.ensures.same) ∙ c.copied.ensures.length in
    let at = is-at t p c.args.leaf.now.level c.args.place c.in_ok-row.ensures.node (omega arith) within long in
    record {
      at = rw (c.copied.ensures.same, is) at.0;
      leaf_parent = tt;
    }

pub returns-clause-place : goal.returns-clause-place
returns-clause-place c =
    let t = c.args.self.now in let p = c.args.leaf.now.path in
    let is = c.in_ok-row.ensures.row in
    let within : c.args.place ≤ length (row_of t c.args.leaf.now) = rw is at c.if-place-row.false in
    let long : length p ≡ 12 = ap length (sym c.copied.ensures.same) ∙ c.copied.ensures.length in
    let at = is-at t p c.args.leaf.now.level c.args.place c.in_ok-row.ensures.node (omega arith) within long in
    rw c.copied.ensures.same at.1

pub returns-clause-gap : goal.returns-clause-gap
returns-clause-gap c =
    let is = c.in_ok-row.ensures.row in
    let within : c.args.place ≤ length (row_of c.args.self.now c.args.leaf.now) = rw is at c.if-place-row.false in
    record { is_node = c.in_ok-row.ensures.node; level = omega arith; place = within }
