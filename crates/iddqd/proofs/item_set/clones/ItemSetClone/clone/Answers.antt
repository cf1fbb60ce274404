use Rattle.iddqd.proofs.CloneLemmas.{IsSoundWithin-clone, IsStoreClone-clone}
use Rattle.iddqd.proofs.item_set.clones.ItemSetClone.clone.Goals as goal

pub invariant_of-result : goal.invariant_of-result
invariant_of-result g c =
    let clones = rw c.deref.ensures.value at c.in_ok-cloned_slots.ensures.clones in
    IsSoundWithin-clone g.T.Clone.is_clone c.self.invariant _ clones

pub returns-clause-cases : goal.returns-clause-cases
returns-clause-cases g c =
    let clones = rw c.deref.ensures.value at c.in_ok-cloned_slots.ensures.clones in
    rw (← c.self.view_is) (IsStoreClone-clone g.T.Clone.is_clone c.self.invariant _ clones)
