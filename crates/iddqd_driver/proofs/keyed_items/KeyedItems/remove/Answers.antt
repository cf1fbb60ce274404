use Rattle.iddqd_driver.proofs.KeyLemmas.{AreLawful-from_bounds}
use Rattle.iddqd_driver.proofs.KeepsLemmas.{Keeps-same}
use Rattle.std.proofs.Common.{refl}
use Rattle.iddqd_driver.proofs.RemovalLemmas.{none-removes, read-live, removed-paired, LeavesOthers-removed}
use Rattle.iddqd_driver.proofs.keyed_items.KeyedItems.remove.Goals as goal

pub invariant_of-self : goal.invariant_of-self
invariant_of-self g c =
    removed-paired c.self.inside.state c.self.inside.items c.self.inside.filed c.self.inside.order c.args.self.now c.self.view_is c.self.invariant c.remove_item.new.items c.remove_index.new.table c.remove_item.new.order c.args.ix _ c.remove_item.ensures.item c.remove_item.ensures.removed c.remove_index.ensures.taken c.remove_item.ensures.taken

pub returns-in_default : goal.returns-in_default
returns-in_default g c =
    record {
      removes = none-removes c.self.inside.state c.self.inside.items c.self.inside.filed c.self.inside.order c.args.self.now c.self.view_is c.self.invariant c.args.ix _ c.in_default.ensures refl;
      live = read-live c.self.inside.state c.self.inside.items c.self.inside.filed c.self.inside.order c.args.self.now c.self.view_is c.self.invariant c.args.ix _ c.in_default.ensures;
      keeps = rw (← c.self.view_is) (Keeps-same _ _ c.self.invariant _ refl);
      memory = refl;
      room = tt;
      count = tt;
    }

pub returns : goal.returns
returns g c =
    let did =
    LeavesOthers-removed c.self.inside.state c.self.inside.items c.self.inside.filed c.self.inside.order c.args.self.now c.self.view_is c.self.invariant
    c.remove_item.new.items c.remove_index.new.table c.remove_item.new.order c.args.ix _ c.remove_item.ensures.item c.remove_item.ensures.removed c.remove_index.ensures.taken c.remove_item.ensures.taken c.remove_item.ensures.slots c.remove_index.ensures.memory c.remove_item.ensures.ordered _
    (AreLawful-from_bounds {item = g.T.KeyedItem} g.S.BuildHasher g.S.Hasher.Hasher g.met.T.Key1.PartialEq.laws
    g.met.T.Key1.Hash.respects_eq g.met.T.Key2.Ord.total) in
    record {
      removes = did.removes;
      live = (λ _. did.live, λ _. refl);
      keeps = did.keeps;
      memory = did.memory;
      room = did.room;
      count = did.count;
    }
