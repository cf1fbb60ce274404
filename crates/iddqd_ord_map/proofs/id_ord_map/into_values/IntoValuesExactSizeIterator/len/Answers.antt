use Rattle.std.proofs.Common.{◌∙◌, length, sym, ap}
use Rattle.iddqd_order.specs.IntoIter.{indexes_to_come}
use Rattle.iddqd_ord_map.proofs.TakeLemmas.{length-items_of_slots}
use Rattle.iddqd_ord_map.proofs.id_ord_map.into_values.IntoValuesExactSizeIterator.len.Goals as goal

pub returns-clause-value : goal.returns-clause-value
returns-clause-value g c =
    c.len.ensures.value ∙ sym (length-items_of_slots c.self.inside.items (indexes_to_come c.self.inside.indexes) c.self.invariant.each) ∙ ap length c.self.view_is
