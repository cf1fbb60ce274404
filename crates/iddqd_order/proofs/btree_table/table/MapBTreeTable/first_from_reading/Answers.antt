use Rattle.iddqd_order.proofs.Names.{◌∙◌, arith, sym, ap, slice_index, order_of, place_in}
use Rattle.std.proofs.lemmas.Option.{get_or_from_slice_get}
use Rattle.iddqd_order.proofs.CursorLemmas.{IsAt-low}
use Rattle.iddqd_order.proofs.btree_table.table.MapBTreeTable.first_from_reading.Goals as goal

pub gap-path-requires : goal.gap-path-requires
gap-path-requires g c =
    let low = IsAt-low _ _ _ _ _ c.find_lower.ensures.tree c.find_lower.ensures.stands.at in omega arith

pub returns : goal.returns
returns g c =
    let p = c.gap-path.ensures in let b = c.in_ok-ix.ensures in
    record {
      asked = c.find_lower.ensures.asked;
      place = _;
      within = b.within;
      begins = rw p c.find_lower.ensures.begins;
      index = b.next;
      spot = record { is_spot = b.level; index = ap (slice_index (order_of c.args.self.now)) b.place ∙ get_or_from_slice_get (order_of c.args.self.now) (place_in c.args.self.now.root c.args.self.now.height c.gap-path.result) _ 0 (sym b.next) };
      place_is = b.place;
    }

pub returns-in_err-ix : goal.returns-in_err-ix
returns-in_err-ix g c =
    let b = c.in_err-ix.ensures in
    rw c.from_residual.ensures (record {
      asked = c.find_lower.ensures.asked;
      place = _;
      within = b.within;
      begins = rw c.gap-path.ensures c.find_lower.ensures.begins;
      index = b.next;
      spot = tt;
      place_is = tt;
    })
