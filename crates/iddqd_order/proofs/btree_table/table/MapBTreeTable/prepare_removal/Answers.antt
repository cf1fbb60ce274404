use Rattle.std.proofs.Common.{refl, ap, is_some}
use Rattle.iddqd_order.specs.PreparedBTreeRemove.{index_of, is_found}
use Rattle.iddqd_order.proofs.btree_table.table.MapBTreeTable.prepare_removal.Goals as goal

pub returns-clause-prepared : goal.returns-clause-prepared
unfolding index_of is_found
returns-clause-prepared g c =
    let spot = c.find_spot-spot.ensures in
    record {
      index = refl;
      stored = spot.stored;
      asked = spot.asked;
      missing = λ e. ap is_some (spot.missing e);
      unasked = spot.unasked;
      rising = spot.rising;
    }
