use Rattle.std.proofs.Common.{Some, None, ap, arith}
use Rattle.std.proofs.lemmas.Grind.{common_steps}
use Rattle.iddqd_driver.specs.Memory.{SizedState}
use Rattle.iddqd_driver.proofs.KeyLemmas.{AreLawful-from_bounds}
use Rattle.iddqd_driver.proofs.KeepsLemmas.{LooksUp-hashed}
use Rattle.iddqd_driver.proofs.RemovalLemmas.{removed-paired, LeavesAll-filed, LeavesOthers-removed}
use Rattle.iddqd_driver.proofs.keyed_items.KeyedItems.remove1.Goals as goal

pub invariant_of-self-2 : goal.invariant_of-self-2
invariant_of-self-2 g c =
    removed-paired c.self.inside.state c.self.inside.items c.self.inside.filed c.self.inside.order
    c.args.self.now c.self.view_is c.self.invariant
    c.remove_item.new.items c.take.new.table c.remove_item.new.order c.in-Some.ix _
    c.remove_item.ensures.item c.remove_item.ensures.removed c.in-Some.ensures.taken c.remove_item.ensures.taken

pub invariant_of-self : goal.invariant_of-self
invariant_of-self g c = grind (arith, common_steps)

pub returns-in_default : goal.returns-in_default
returns-in_default g c =
    let lawful =
    AreLawful-from_bounds {item = g.T.KeyedItem} g.S.BuildHasher g.S.Hasher.Hasher g.met.T.Key1.PartialEq.laws
    g.met.T.Key1.Hash.respects_eq g.met.T.Key2.Ord.total in
    let looked =
    LooksUp-hashed _ _ _ (ap (λ (k : SizedState _ _). k.state) c.self.view_is) lawful c.args.key.now _ None
    c.compute_hash-hash.ensures.hash c.in_default.ensures.found in
    let left =
    LeavesAll-filed c.self.inside.state c.self.inside.items c.self.inside.filed c.self.inside.order
    c.args.self.now c.self.view_is c.self.invariant c.take.new.table c.in_default.ensures.taken _
    c.in_default.ensures.memory in
    record {
      removes = record { removes = (looked.found, left.state); as_scan = looked.as_scan };
      keeps = left.keeps;
      memory = left.memory;
      room = tt;
      count = tt;
    }

pub returns : goal.returns
returns g c =
    let lawful =
    AreLawful-from_bounds {item = g.T.KeyedItem} g.S.BuildHasher g.S.Hasher.Hasher g.met.T.Key1.PartialEq.laws
    g.met.T.Key1.Hash.respects_eq g.met.T.Key2.Ord.total in
    let looked =
    LooksUp-hashed _ _ _ (ap (λ (k : SizedState _ _). k.state) c.self.view_is) lawful c.args.key.now _
    (Some c.in-Some.ix) c.compute_hash-hash.ensures.hash c.in-Some.ensures.found in
    let did =
    LeavesOthers-removed c.self.inside.state c.self.inside.items c.self.inside.filed c.self.inside.order
    c.args.self.now c.self.view_is c.self.invariant
    c.remove_item.new.items c.take.new.table c.remove_item.new.order c.in-Some.ix _
    c.remove_item.ensures.item c.remove_item.ensures.removed c.in-Some.ensures.taken c.remove_item.ensures.taken
    c.remove_item.ensures.slots c.in-Some.ensures.memory c.remove_item.ensures.ordered _ lawful in
    record {
      removes = record { removes = (looked.found, did.removes); as_scan = looked.as_scan };
      keeps = did.keeps;
      memory = did.memory;
      room = did.room;
      count = did.count;
    }
