use Rattle.iddqd_order.proofs.Names.{◌∙◌, arith, sym, ap, order_of, slice_index, place_in}
use Rattle.std.proofs.lemmas.Option.{get_or_from_slice_get}
use Rattle.iddqd_order.proofs.CursorLemmas.{IsAt-low}
use Rattle.iddqd_order.proofs.SteppingLemmas.{none_past}
use Rattle.iddqd_order.proofs.btree_table.table.MapBTreeTable.last_before.Goals as goal

pub gap-path-requires : goal.gap-path-requires
gap-path-requires c =
    let low = IsAt-low _ _ _ _ _ c.tree-height.ensures.tree (let t = c.tree-height.ensures in rw (t.root, t.height) at c.next_back.ensures.stands).at in
    omega arith

pub returns-in_err-ix-clause-none : goal.returns-in_err-ix-clause-none
unfolding order_of
returns-in_err-ix-clause-none c = λ none gap.
    let t = c.tree-height.ensures in
    let step = rw (t.root, t.height) at c.in_ok-next_back.ensures.next in
    absurd (none_past (order_of c.args.self.now) (place_in c.args.self.now.root c.args.self.now.height c.gap-path.result) (rw c.gap-path.ensures step.0.0) (sym c.in_err-ix.ensures.next))

pub returns-clause-spot : goal.returns-clause-spot
returns-clause-spot c =
    let b = c.in_ok-ix.ensures in
    record {
      is_spot = b.level;
      index = ap (slice_index (order_of c.args.self.now)) b.place ∙ get_or_from_slice_get (order_of c.args.self.now) (place_in c.args.self.now.root c.args.self.now.height c.gap-path.result) _ 0 (sym b.next);
    }
