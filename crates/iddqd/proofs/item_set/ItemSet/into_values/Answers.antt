use Rattle.std.proofs.Common.{map, sym, ◌∙◌}
use Rattle.iddqd.specs.Slots.{item_of}
use Rattle.iddqd.proofs.LiveItemLemmas.{length-items_in}
use Rattle.iddqd.proofs.item_set.ItemSet.into_values.Goals as goal

pub invariant_of-result : goal.invariant_of-result
invariant_of-result g c =
    rw c.into_iter.ensures.rest (c.self.invariant.sound.counted ∙ sym (length-items_in (map item_of c.self.inside.slots.items)))

pub returns-clause-len : goal.returns-clause-len
returns-clause-len g c =
    rw (c.into_iter.ensures.rest, ← c.self.view_is) (length-items_in (map item_of c.self.inside.slots.items))
