use Rattle.std.proofs.Common.{◌≡◌, ◌∙◌, map, refl, arith}
use Rattle.std.proofs.lemmas.Grind.{common_steps}
use Rattle.iddqd.specs.Compaction.{rank}
use Rattle.iddqd_hash.specs.MapHashTable.{filed, Renames}
use Rattle.iddqd_order.specs.MapBTreeTable.{order_of}
use Rattle.iddqd_by_hash.proofs.HoldsLemmas.{CanRemap-held, one_name-held, Renames-by_rank}
use Rattle.iddqd_by_order.proofs.OrderedHoldsLemmas as order_holds
use Rattle.iddqd_driver.proofs.KeyLemmas.{AreLawful-from_bounds}
use Rattle.iddqd_driver.proofs.KeepsLemmas.{Holds-order, IsPaired-compacted}
use Rattle.iddqd_driver.proofs.PartLemmas.{LeavesCompacted-parts}
use Rattle.iddqd_driver.proofs.keyed_items.KeyedItems.compact.Goals.{After-remap_indexes-2}
use Rattle.iddqd_driver.proofs.KeepsLemmas.{Keeps-same}
use Rattle.iddqd_driver.proofs.keyed_items.KeyedItems.compact.Goals as goal

pub remap_indexes-requires-clause-can_remap : goal.remap_indexes-requires-clause-can_remap
remap_indexes-requires-clause-can_remap g c =
    CanRemap-held _ _ c.self.invariant.filed c.in-Ok.remap c.self.invariant.valid c.in-Ok.ensures.remap

pub remap_indexes-requires-clause-distinct : goal.remap_indexes-requires-clause-distinct
remap_indexes-requires-clause-distinct g c =
    one_name-held _ _ c.self.invariant.filed c.in-Ok.remap c.self.invariant.valid c.in-Ok.ensures.remap

pub remap_indexes-requires-2-clause-can_remap : goal.remap_indexes-requires-2-clause-can_remap
remap_indexes-requires-2-clause-can_remap g c =
    let was = c.self.invariant in
    order_holds.CanRemap-held _ _ (Holds-order _ was) c.in-Ok.remap was.valid c.in-Ok.ensures.remap

pub remap_indexes-requires-2-clause-distinct : goal.remap_indexes-requires-2-clause-distinct
remap_indexes-requires-2-clause-distinct g c =
    let was = c.self.invariant in
    order_holds.one_name-held _ _ (Holds-order _ was) c.in-Ok.remap was.valid c.in-Ok.ensures.remap

-- both tables were renamed by rank
named : (g : _) (c : After-remap_indexes-2 g)
    → Renames (rank c.self.inside.items.store) (filed c.self.inside.filed) (filed c.remap_indexes.new.self)
named g c =
    let was = c.self.invariant in
    let out = c.remap_indexes.ensures in
    Renames-by_rank _ _ was.filed c.in-Ok.remap was.valid c.in-Ok.ensures.remap _ out.renamed

listed : (g : _) (c : After-remap_indexes-2 g)
    → order_of c.remap_indexes-2.new.self ≡ map (rank c.self.inside.items.store) (order_of c.self.inside.order)
listed g c =
    let was = c.self.invariant in
    c.remap_indexes-2.ensures.renamed
    ∙ order_holds.map-by_rank _ _ (Holds-order _ was) c.in-Ok.remap was.valid c.in-Ok.ensures.remap

pub invariant_of-self-2 : goal.invariant_of-self-2
invariant_of-self-2 g c =
    rw (c.in-Ok.ensures.compacted, listed g c) (IsPaired-compacted _ c.self.invariant _ (named g c))

pub invariant_of-self : goal.invariant_of-self
invariant_of-self g c = grind (arith, common_steps)

pub returns-in-Err : goal.returns-in-Err
returns-in-Err g c =
    rw (← c.self.view_is, c.in-Err.ensures.refused)
    (record { compacts = tt; refused = refl; dense = c.in-Err.ensures.dense; keeps = Keeps-same _ _ c.self.invariant _ refl; memory = refl })

pub returns : goal.returns
returns g c =
    let left =
    LeavesCompacted-parts _ c.self.inside.state c.self.inside.items c.self.inside.filed c.self.inside.order c.args.self.now c.self.view_is c.self.invariant c.compact.new.self c.remap_indexes.new.self c.remap_indexes-2.new.self
    c.in-Ok.ensures.capacity c.remap_indexes.ensures.memory c.remap_indexes-2.ensures.memory
    (AreLawful-from_bounds {item = g.T.KeyedItem} g.S.BuildHasher g.S.Hasher.Hasher g.met.T.Key1.PartialEq.laws
    g.met.T.Key1.Hash.respects_eq g.met.T.Key2.Ord.total)
    c.in-Ok.ensures.compacted (named g c) (listed g c) in
    record {
      compacts = (rw (← c.self.view_is) c.in-Ok.ensures.remap, left.compacts);
      refused = tt;
      dense = λ _. refl;
      keeps = left.keeps;
      memory = left.memory;
    }
