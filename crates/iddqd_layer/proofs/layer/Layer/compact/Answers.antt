use Rattle.std.proofs.Common.{◌∙◌, ◌≤◌, ap, subst, arith}
use Rattle.iddqd.specs.Compaction.{compacted, rank}
use Rattle.iddqd.specs.Store.{live_count}
use Rattle.iddqd.proofs.CompactionLemmas.{IsValid-compacted, live_count-compacted}
use Rattle.iddqd_by_hash.proofs.HoldsLemmas as by_hash
use Rattle.iddqd_by_order.proofs.OrderedHoldsLemmas as by_order
use Rattle.iddqd_layer.specs.Layer.{Layer, Each, FitsItsMemory, IsPaired, RenamesHashed, RenamesOrdered, room}
use Rattle.iddqd_layer.proofs.RoomLemmas.{fits-held, room-held, same-kept}
use Rattle.iddqd_layer.proofs.layer.Layer.compact.Goals.{After-rename_ordered}
use Rattle.iddqd_layer.proofs.LayerLemmas.{hashed-compacted, ordered-compacted, paired}
use Rattle.iddqd_layer.proofs.layer.Layer.compact.Goals as goal

pub rename_hashed-requires-clause-can_remap : goal.rename_hashed-requires-clause-can_remap
rename_hashed-requires-clause-can_remap c k t lt =
    by_hash.CanRemap-held _ _ (c.self.invariant.hashed k t lt) c.in-Ok.remap c.self.invariant.valid
    c.in-Ok.ensures.remap

pub rename_hashed-requires-clause-distinct : goal.rename_hashed-requires-clause-distinct
rename_hashed-requires-clause-distinct c k t lt =
    by_hash.one_name-held _ _ (c.self.invariant.hashed k t lt) c.in-Ok.remap c.self.invariant.valid
    c.in-Ok.ensures.remap

pub rename_ordered-requires-clause-can_remap : goal.rename_ordered-requires-clause-can_remap
rename_ordered-requires-clause-can_remap c k t lt =
    by_order.CanRemap-held _ _ (c.self.invariant.ordered k t lt) c.in-Ok.remap c.self.invariant.valid
    c.in-Ok.ensures.remap

pub rename_ordered-requires-clause-distinct : goal.rename_ordered-requires-clause-distinct
rename_ordered-requires-clause-distinct c k t lt =
    by_order.one_name-held _ _ (c.self.invariant.ordered k t lt) c.in-Ok.remap c.self.invariant.valid
    c.in-Ok.ensures.remap

-- the tables were renamed by rank
filed-by_rank : (c : After-rename_ordered)
    → Each (RenamesHashed (rank c.self.inside.items.store)) c.self.inside.hashed.items c.rename_hashed.new.tables.items
filed-by_rank c =
    let was = c.self.invariant in let e = c.rename_hashed.ensures.renamed in
    record {
      long = e.long;
      at = λ k a b lt. by_hash.Renames-by_rank _ _ (was.hashed k a lt) c.in-Ok.remap was.valid c.in-Ok.ensures.remap _
          (e.at k a b lt);
    }

listed-by_rank : (c : After-rename_ordered)
    → Each (RenamesOrdered (rank c.self.inside.items.store)) c.self.inside.ordered.items
    c.rename_ordered.new.tables.items
listed-by_rank c =
    let was = c.self.invariant in let e = c.rename_ordered.ensures.renamed in
    record {
      long = e.long;
      at = λ k a b lt. e.at k a b lt
          ∙ by_order.map-by_rank _ _ (was.ordered k a lt) c.in-Ok.remap was.valid c.in-Ok.ensures.remap;
    }

abbrev left : After-rename_ordered → Layer
left c = record {
  slots = c.compact.new.self;
  hashed = c.rename_hashed.new.tables.items;
  ordered = c.rename_ordered.new.tables.items;
}

left-paired : (c : After-rename_ordered) → IsPaired (left c)
left-paired c =
    let l = c.self.inside in let s = l.items.store in
    paired (left c) (compacted s) c.in-Ok.ensures.compacted (IsValid-compacted s c.self.invariant.valid)
    (hashed-compacted s l.hashed.items c.rename_hashed.new.tables.items c.self.invariant.hashed (filed-by_rank c))
    (ordered-compacted s l.ordered.items c.rename_ordered.new.tables.items c.self.invariant.ordered (listed-by_rank c))

pub invariant_of-self-2 : goal.invariant_of-self-2
invariant_of-self-2 c = left-paired c

as_many : (c : After-rename_ordered) → live_count c.compact.new.self.store ≤ live_count c.self.inside.items.store
as_many c =
    let same = ap live_count c.in-Ok.ensures.compacted in
    let all = live_count-compacted c.self.inside.items.store in
    omega arith

pub returns-clause-room : goal.returns-clause-room
returns-clause-room c =
    let l = c.self.inside in
    let same = c.in-Ok.ensures.room in
    subst (λ z. room z ≤ room (left c)) c.self.view_is
    (room-held (record { slots = l.items; hashed = l.hashed.items; ordered = l.ordered.items }) (left c)
    c.self.invariant (left-paired c) (as_many c) (omega arith) c.rename_hashed.ensures.room
    (same-kept _ _ c.rename_ordered.ensures.memory))

pub returns-clause-fits : goal.returns-clause-fits
returns-clause-fits c =
    let l = c.self.inside in
    subst (λ z. FitsItsMemory z → FitsItsMemory (left c)) c.self.view_is
    (fits-held (record { slots = l.items; hashed = l.hashed.items; ordered = l.ordered.items }) (left c)
    c.self.invariant (left-paired c) (as_many c) (same-kept _ _ c.rename_ordered.ensures.memory))

pub returns-clause-hashed : goal.returns-clause-hashed
returns-clause-hashed c =
    rw (← c.self.view_is) (filed-by_rank c)

pub returns-clause-ordered : goal.returns-clause-ordered
returns-clause-ordered c =
    rw (← c.self.view_is) (listed-by_rank c)
