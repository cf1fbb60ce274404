use Rattle.iddqd_order.proofs.Names.{◌∙◌, sym, ap, order_of, slice_index, place_in}
use Rattle.std.proofs.lemmas.Option.{get_or_from_slice_get}
use Rattle.iddqd_order.proofs.btree_table.table.MapBTreeTable.first_behind.Goals as goal

pub returns-clause-spot : goal.returns-clause-spot
returns-clause-spot c =
    let b = c.in_ok-ix.ensures in
    record {
      is_spot = b.level;
      index = ap (slice_index (order_of c.args.self.now)) b.place ∙ get_or_from_slice_get (order_of c.args.self.now) (place_in c.args.self.now.root c.args.self.now.height c.in_ok-gap.gap.path) _ 0 (sym b.next);
    }
