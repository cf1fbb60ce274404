use Rattle.std.proofs.Common.{refl}
use Rattle.iddqd_driver.specs.Keys.{keys_of}
use Rattle.iddqd_driver.specs.State.{state_of}
use Rattle.iddqd_driver.proofs.InSyncLemmas.{sound-ok, IsMemory-sound, SecondKeysInSync-rising, KeysRise-in_sync}
use Rattle.iddqd_driver.proofs.KeyLemmas.{AreLawful-from_bounds}
use Rattle.iddqd_driver.proofs.keyed_items.KeyedItems.check_by_keys.Goals as goal

pub returns-clause-by_keys : goal.returns-clause-by_keys
returns-clause-by_keys g c =
    let keys = keys_of g.T.KeyedItem g.T.Key1.PartialEq.eq g.T.Key1.Hash.hash_input g.T.Key2.Ord.cmp g.S.BuildHasher g.S.Hasher.Hasher in
    let lawful = AreLawful-from_bounds {item = g.T.KeyedItem} g.S.BuildHasher g.S.Hasher.Hasher g.met.T.Key1.PartialEq.laws g.met.T.Key1.Hash.respects_eq g.met.T.Key2.Ord.total in
    let s = state_of c.self.inside.state c.self.inside.items.store c.self.inside.filed c.self.inside.order in
    let first = rw (← c.self.view_is) at (c.in_ok-check_found.ensures.by_keys refl) in
    rw (← c.self.view_is) (λ ok. record {
      first = first;
      second = SecondKeysInSync-rising keys lawful s c.self.invariant (sound-ok _ c.check_order.result ok c.check_order.ensures);
    })

pub returns-clause-in_sync : goal.returns-clause-in_sync
returns-clause-in_sync g c =
    let keys = keys_of g.T.KeyedItem g.T.Key1.PartialEq.eq g.T.Key1.Hash.hash_input g.T.Key2.Ord.cmp g.S.BuildHasher g.S.Hasher.Hasher in
    let lawful = AreLawful-from_bounds {item = g.T.KeyedItem} g.S.BuildHasher g.S.Hasher.Hasher g.met.T.Key1.PartialEq.laws g.met.T.Key1.Hash.respects_eq g.met.T.Key2.Ord.total in
    let s = state_of c.self.inside.state c.self.inside.items.store c.self.inside.filed c.self.inside.order in
    rw (← c.self.view_is) (λ o. IsMemory-sound _ c.check_order.result (KeysRise-in_sync keys lawful s c.self.invariant o.second) c.check_order.ensures)
