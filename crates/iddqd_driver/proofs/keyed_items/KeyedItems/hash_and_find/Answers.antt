use Rattle.std.proofs.Common.{ap, arith}
use Rattle.std.proofs.lemmas.Grind.{common_steps}
use Rattle.iddqd_driver.specs.Memory.{SizedState}
use Rattle.iddqd_driver.proofs.KeyLemmas.{AreLawful-from_bounds}
use Rattle.iddqd_driver.proofs.KeepsLemmas.{LooksUp-hashed}
use Rattle.iddqd_driver.proofs.keyed_items.KeyedItems.hash_and_find.Goals as goal

pub returns-clause-hash : goal.returns-clause-hash
returns-clause-hash g c = rw (← c.self.view_is) c.compute_hash-hash.ensures.hash

pub returns-clause-found : goal.returns-clause-found
returns-clause-found g c =
    LooksUp-hashed _ _ _ (ap (λ (k : SizedState _ _). k.state) c.self.view_is)
    (AreLawful-from_bounds {item = g.T.KeyedItem} g.S.BuildHasher g.S.Hasher.Hasher g.met.T.Key1.PartialEq.laws
    g.met.T.Key1.Hash.respects_eq g.met.T.Key2.Ord.total)
    c.args.key.now _ _ c.compute_hash-hash.ensures.hash c.find.ensures

pub returns-clause-paired : goal.returns-clause-paired
returns-clause-paired g c = grind (arith, common_steps)
