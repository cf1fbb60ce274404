use Rattle.std.proofs.Common.{ap, arith}
use Rattle.iddqd.proofs.StoreLemmas.{IsValid-empty}
use Rattle.iddqd.specs.Store.{Store, empty, slot_limit}
use Rattle.iddqd_layer.proofs.LayerLemmas.{hashed-empty, ordered-empty, paired}
use Rattle.iddqd_layer.proofs.RoomLemmas.{fits-new}
use Rattle.iddqd_layer.proofs.layer.Layer.new.Goals as goal

pub invariant_of-result : goal.invariant_of-result
invariant_of-result c =
    let none : Store (Unit {0}) = empty in
    paired _ none (ap (λ z. z.store) c.new.ensures) (IsValid-empty slot_limit (omega arith))
    (hashed-empty c.in-Ok.hashed_tables.items c.in-Ok.ensures.empty)
    (ordered-empty c.in-Ok-new_ordered.ordered_tables.items c.in-Ok-new_ordered.ensures.empty)

pub returns-clause-fits : goal.returns-clause-fits
returns-clause-fits c = fits-new c.in-Ok-new_ordered.ordered_tables.items c.in-Ok-new_ordered.ensures.empty
