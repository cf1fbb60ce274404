use Rattle.iddqd_order_reference.proofs.Names.{refl, ap, is_some}
use Rattle.iddqd_order_reference.specs.OrderedTable.{order_of}
use Rattle.iddqd_order_reference.specs.PreparedRemove.{index_of, is_found}
use Rattle.iddqd_order_reference.proofs.OrderedTableLemmas.{Contains-from_place}
use Rattle.iddqd_order_reference.proofs.ordered_table_reference.OrderedTable.prepare_removal.Goals as goal

pub returns-clause-prepared : goal.returns-clause-prepared
unfolding index_of is_found
returns-clause-prepared g c =
    let place = c.find_place-place in
    record {
      index = refl;
      stored = Contains-from_place (order_of c.args.self.now) c.args.ix place.result place.ensures.there;
      asked = place.ensures.asked;
      missing = λ e. ap is_some (place.ensures.missing e);
      unasked = place.ensures.unasked;
      rising = place.ensures.rising;
    }
