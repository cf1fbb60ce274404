use Rattle.std.proofs.Common.{arith}
use Rattle.std.proofs.lemmas.Grind.{common_steps}
use Rattle.iddqd_driver.proofs.KeyLemmas.{AreLawful-from_bounds}
use Rattle.iddqd_driver.proofs.RemovalLemmas.{removed-paired, LeavesAll-ordered, LeavesOthers-removed}
use Rattle.iddqd_driver.proofs.keyed_items.KeyedItems.remove2.Goals as goal

pub invariant_of-self-2 : goal.invariant_of-self-2
invariant_of-self-2 g c =
    removed-paired c.self.inside.state c.self.inside.items c.self.inside.filed c.self.inside.order
    c.args.self.now c.self.view_is c.self.invariant
    c.take_item-item.new.items c.remove_index.new.table c.take.new.table c.in-Some.ix _
    c.take_item-item.ensures.item c.take_item-item.ensures.removed c.remove_index.ensures.taken
    c.in-Some.ensures.taken

pub invariant_of-self : goal.invariant_of-self
invariant_of-self g c = grind (arith, common_steps)

pub returns-in_default : goal.returns-in_default
returns-in_default g c =
    let looked = c.in_default.ensures.found in
    let left =
    LeavesAll-ordered c.self.inside.state c.self.inside.items c.self.inside.filed c.self.inside.order
    c.args.self.now c.self.view_is c.self.invariant _ c.take.new.table c.in_default.ensures.taken
    c.in_default.ensures.memory in
    record {
      removes = record {
        removes = (rw (← c.self.view_is) looked.found, left.state);
        as_scan = rw (← c.self.view_is) looked.as_scan;
      };
      keeps = left.keeps;
      memory = left.memory;
      room = tt;
      count = tt;
    }

pub returns : goal.returns
returns g c =
    let looked = c.in-Some.ensures.found in
    let did =
    LeavesOthers-removed c.self.inside.state c.self.inside.items c.self.inside.filed c.self.inside.order
    c.args.self.now c.self.view_is c.self.invariant
    c.take_item-item.new.items c.remove_index.new.table c.take.new.table c.in-Some.ix _
    c.take_item-item.ensures.item c.take_item-item.ensures.removed c.remove_index.ensures.taken
    c.in-Some.ensures.taken c.take_item-item.ensures.slots c.remove_index.ensures.memory c.in-Some.ensures.memory _
    (AreLawful-from_bounds {item = g.T.KeyedItem} g.S.BuildHasher g.S.Hasher.Hasher g.met.T.Key1.PartialEq.laws
    g.met.T.Key1.Hash.respects_eq g.met.T.Key2.Ord.total) in
    record {
      removes = record {
        removes = (rw (← c.self.view_is) looked.found, did.removes);
        as_scan = rw (← c.self.view_is) looked.as_scan;
      };
      keeps = did.keeps;
      memory = did.memory;
      room = did.room;
      count = did.count;
    }
