use Rattle.iddqd_driver.proofs.KeepsLemmas.{IsPaired-cleared}
use Rattle.iddqd_driver.proofs.PartLemmas.{LeavesCleared-parts}
use Rattle.iddqd_driver.proofs.keyed_items.KeyedItems.clear.Goals as goal

pub invariant_of-self : goal.invariant_of-self
invariant_of-self g c =
    rw (c.clear.ensures.store, c.clear-2.ensures.empty, c.clear-3.ensures.empty) (IsPaired-cleared _ c.self.invariant)

pub returns : goal.returns
returns g c =
    let left =
    LeavesCleared-parts _ c.self.inside.state c.self.inside.items c.self.inside.filed c.self.inside.order c.args.self.now c.self.view_is c.self.invariant c.clear.new.self c.clear-2.new.self c.clear-3.new.self
    c.clear.ensures.capacity c.clear-2.ensures.memory c.clear-3.ensures.memory
    c.clear.ensures.store c.clear-2.ensures.empty c.clear-3.ensures.empty in
    record { cleared = left.cleared; keeps = left.keeps; memory = left.memory }
