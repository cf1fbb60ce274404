use Rattle.std.proofs.Common.{refl, sym}
use Rattle.iddqd_driver.proofs.KeyLemmas.{AreLawful-from_bounds}
use Rattle.iddqd_driver.proofs.KeepsLemmas.{IsPaired-rebound, KeepsUnlessChanged-same}
use Rattle.iddqd_driver.proofs.PartLemmas.{LeavesOverwritten-parts}
use Rattle.iddqd_driver.proofs.keyed_items.KeyedItems.overwrite.Goals as goal

pub invariant_of-self : goal.invariant_of-self
invariant_of-self g c =
    let out = c.replace.ensures in
    rw out.rebound (IsPaired-rebound _ c.self.invariant c.args.ix c.args.item _ out.value)

pub returns : goal.returns
returns g c =
    let left =
    LeavesOverwritten-parts _ c.self.inside.state c.self.inside.items c.self.inside.filed c.self.inside.order c.args.self.now c.self.view_is c.self.invariant c.replace.new.self
    (AreLawful-from_bounds {item = g.T.KeyedItem} g.S.BuildHasher g.S.Hasher.Hasher g.met.T.Key1.PartialEq.laws
    g.met.T.Key1.Hash.respects_eq g.met.T.Key2.Ord.total)
    c.args.ix c.args.item c.replace.result c.replace.ensures.value c.replace.ensures.rebound in
    record { overwrites = (left.live, left.state); keeps = left.keeps; memory = left.memory; count = left.count }

pub returns-in_default : goal.returns-in_default
returns-in_default g c =
    let keeps = KeepsUnlessChanged-same _ _ c.self.invariant c.args.ix c.args.item in
    rw (← c.self.view_is) (record {
      overwrites = (sym c.in_default.ensures, refl, refl);
      keeps = keeps;
      memory = refl;
      count = refl;
    })
