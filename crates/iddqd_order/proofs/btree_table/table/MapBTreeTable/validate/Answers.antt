use Rattle.std.proofs.Common.{◌≢◌, refl}
use Rattle.std.proofs.lemmas.List.Elements.{All-contains}
use Rattle.iddqd.proofs.SoundIndexLemmas.{Validates-in_order}
use Rattle.iddqd_order.specs.MapBTreeTable.{order_of, sentinel}
use Rattle.iddqd_order.proofs.btree_table.table.MapBTreeTable.validate.Goals as goal

pub returns-in-Ok-clause-sound : goal.returns-in-Ok-clause-sound
returns-in-Ok-clause-sound c =
    let order = order_of c.args.self.now in
    let listed = rw (c.deref.ensures.value, c.in-Ok.ensures.all) at c.validate_ordered_indexes.ensures in
    Validates-in_order c.args.compactness c.args.expected_len order c.in-Ok.ensures.indexes.distinct c.validate_ordered_indexes.result (λ stored. All-contains (λ ix. ix ≢ sentinel) order sentinel c.in-Ok.ensures.indexes.assigned stored refl) listed
