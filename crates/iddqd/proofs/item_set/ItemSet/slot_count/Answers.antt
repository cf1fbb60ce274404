use Rattle.iddqd.proofs.SlotLemmas.{store-is-valid}
use Rattle.iddqd.proofs.item_set.ItemSet.slot_count.Goals as goal

pub returns-clause-valid : goal.returns-clause-valid
returns-clause-valid g c = rw (← c.self.view_is) (store-is-valid c.self.invariant)
