use Rattle.std.proofs.Common.{◌≡◌, ◌-◌, length, arith}
use Rattle.iddqd.specs.Slots.{chain_of}
use Rattle.iddqd.proofs.SoundSlotLemmas.{all_but_free, IsSoundIn-set}
use Rattle.iddqd.proofs.item_set.ItemSet.validate.Goals as goal

pub returns-clause-allows : goal.returns-clause-allows
returns-clause-allows g c =
    let answered = rw c.deref.ensures.value at c.validate_slots.ensures.sound in
    let same = IsSoundIn-set c.self.invariant c.args.compactness in
    rw (← c.self.view_is) (λ ok. same.1 (answered.0 ok), λ allowed. answered.1 (same.0 allowed))

pub returns-clause-not_compact : goal.returns-clause-not_compact
returns-clause-not_compact g c =
    let told = (rw c.deref.ensures.value at c.validate_slots.ensures.not_compact) c.self.invariant.sound in
    let slots = c.self.inside.slots.items in
    let vacant : length slots - c.self.inside.len ≡ length (chain_of (length slots) slots c.self.inside.free_head) = omega (arith, all_but_free c.self.invariant) in
    rw (← c.self.view_is, ← vacant) told
