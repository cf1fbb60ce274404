use Rattle.iddqd_layer.proofs.LayerLemmas.{hashed-copied, ordered-copied, paired, store-same}
use Rattle.iddqd_layer.proofs.layer.LayerClone.clone.Goals as goal

pub invariant_of-result : goal.invariant_of-result
invariant_of-result c =
    let l = c.self.inside in let s = l.items.store in
    let hashed = rw c.deref.ensures.value at c.in_ok-copy_hashed.ensures in
    let ordered = rw c.deref-2.ensures.value at c.in_ok-copy_ordered.ensures in
    paired _ s (store-same _ s _ c.in_ok-clone.ensures.cases) c.self.invariant.valid
    (hashed-copied s l.hashed.items c.in_ok-copy_hashed.field-0.items c.self.invariant.hashed hashed)
    (ordered-copied s l.ordered.items c.in_ok-copy_ordered.field-0.items c.self.invariant.ordered ordered)

pub returns : goal.returns
returns c =
    let s = c.self.inside.items.store in
    let hashed = rw c.deref.ensures.value at c.in_ok-copy_hashed.ensures in
    let ordered = rw c.deref-2.ensures.value at c.in_ok-copy_ordered.ensures in
    record {
      cases =
          rw (← c.self.view_is)
          (record { store = store-same _ s _ c.in_ok-clone.ensures.cases; hashed = hashed; ordered = ordered });
    }
