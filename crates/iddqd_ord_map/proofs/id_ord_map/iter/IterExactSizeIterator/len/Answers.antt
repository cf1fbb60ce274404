use Rattle.std.proofs.Common.{◌∙◌, length, sym, ap}
use Rattle.iddqd_order.specs.Iter.{indexes_left}
use Rattle.iddqd_keys.proofs.KeyWalkLemmas.{length-pairs_at}
use Rattle.iddqd_ord_map.proofs.id_ord_map.iter.IterExactSizeIterator.len.Goals as goal

pub returns-clause-value : goal.returns-clause-value
returns-clause-value g c =
    c.len.ensures.value ∙ sym (length-pairs_at c.self.inside.items.now.store (indexes_left c.self.inside.indexes) c.self.invariant) ∙ ap length c.self.view_is
