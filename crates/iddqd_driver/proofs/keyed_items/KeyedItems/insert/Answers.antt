use Rattle.iddqd_driver.specs.Keys.{Keys, keys_of}
use Rattle.iddqd_driver.specs.Memory.{sized_of}
use Rattle.iddqd_driver.proofs.KeyLemmas.{AreLawful-from_bounds}
use Rattle.iddqd_driver.proofs.KeepsLemmas.{Holds-order}
use Rattle.iddqd_driver.proofs.PartLemmas.{LeavesInserted, LeavesInserted-parts}
use Rattle.iddqd_by_hash.proofs.HoldsLemmas.{next_unfiled}
use Rattle.iddqd_driver.proofs.keyed_items.KeyedItems.insert.Given.{Over}
use Rattle.iddqd_driver.proofs.keyed_items.KeyedItems.insert.Goals.{After-insert_item}
use Rattle.iddqd_driver.proofs.keyed_items.KeyedItems.insert.Goals as goal

pub insert_item-requires-clause-valid : goal.insert_item-requires-clause-valid
insert_item-requires-clause-valid g c = c.self.invariant.valid

pub insert_item-requires-clause-unfiled : goal.insert_item-requires-clause-unfiled
insert_item-requires-clause-unfiled g c = next_unfiled _ _ c.self.invariant.filed c.self.invariant.valid

pub insert_item-requires-clause-ordered : goal.insert_item-requires-clause-ordered
insert_item-requires-clause-ordered g c = Holds-order _ c.self.invariant

abbrev keys_in : (g : Over) → Keys g.row.T.Denot g.row.T-Key1.Denot g.row.T-Key2.Denot g.row.S.Denot
keys_in g = keys_of g.T.KeyedItem g.T.Key1.PartialEq.eq g.T.Key1.Hash.hash_input g.T.Key2.Ord.cmp g.S.BuildHasher g.S.Hasher.Hasher

left :
    (g : _) (c : After-insert_item g)
    → LeavesInserted (keys_in g) c.args.self.now c.args.item c.insert_item.result
    (sized_of c.self.inside.state c.insert_item.new.items c.insert_item.new.table c.insert_item.new.order)
left g c =
    let out = c.insert_item.ensures in
    LeavesInserted-parts (keys_in g) c.self.inside.state c.self.inside.items c.self.inside.filed c.self.inside.order
    c.args.self.now c.self.view_is c.self.invariant
    (AreLawful-from_bounds {item = g.T.KeyedItem} g.S.BuildHasher g.S.Hasher.Hasher g.met.T.Key1.PartialEq.laws
    g.met.T.Key1.Hash.respects_eq g.met.T.Key2.Ord.total) c.args.item c.key1.result.now c.key1.ensures
    c.hash_and_find-hash.result.0 c.hash_and_find-hash.result.1 c.hash_and_find-hash.ensures.hash c.hash_and_find-hash.ensures.found
    c.insert_item.new.items c.insert_item.new.table c.insert_item.new.order c.insert_item.result
    out.first out.second out.refused out.parts

pub invariant_of-self : goal.invariant_of-self
invariant_of-self g c = (left g c).keeps.paired.1

pub returns : goal.returns
returns g c =
    let did = left g c in
    record {
      inserts = did.inserts;
      tells = did.tells;
      keeps = did.keeps;
      memory = did.memory;
      few = did.few;
      room = did.has_room;
      not_refused = did.not_refused;
      count = did.count;
    }
