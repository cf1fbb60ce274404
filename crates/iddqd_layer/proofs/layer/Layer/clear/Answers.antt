use Rattle.std.proofs.Common.{◌≤◌, ap, subst, arith}
use Rattle.iddqd.specs.Store.{cleared, live_count}
use Rattle.iddqd.proofs.StoreLemmas.{IsValid-cleared}
use Rattle.iddqd_layer.specs.Layer.{Layer, IsPaired, room}
use Rattle.iddqd_layer.proofs.LayerLemmas.{hashed-cleared, ordered-cleared, paired}
use Rattle.iddqd_layer.proofs.RoomLemmas.{fits-empty, room-held, same-kept}
use Rattle.iddqd_layer.proofs.layer.Layer.clear.Goals.{After-clear_ordered}
use Rattle.iddqd_layer.proofs.layer.Layer.clear.Goals as goal

abbrev left : After-clear_ordered → Layer
left c = record {
  slots = c.clear.new.self;
  hashed = c.clear_hashed.new.tables.items;
  ordered = c.clear_ordered.new.tables.items;
}

left-paired : (c : After-clear_ordered) → IsPaired (left c)
left-paired c =
    let l = c.self.inside in let s = l.items.store in
    paired (left c) (cleared s) c.clear.ensures.store (IsValid-cleared s c.self.invariant.valid)
    (hashed-cleared s l.hashed.items c.clear_hashed.new.tables.items c.self.invariant.hashed
    c.clear_hashed.ensures.empty)
    (ordered-cleared s l.ordered.items c.clear_ordered.new.tables.items c.self.invariant.ordered
    c.clear_ordered.ensures.empty)

pub invariant_of-self : goal.invariant_of-self
invariant_of-self c = left-paired c

pub returns-clause-room : goal.returns-clause-room
returns-clause-room c =
    let l = c.self.inside in
    let none = ap live_count c.clear.ensures.store in
    subst (λ z. room z ≤ room (left c)) c.self.view_is
    (room-held (record { slots = l.items; hashed = l.hashed.items; ordered = l.ordered.items }) (left c)
    c.self.invariant (left-paired c) (omega arith) c.clear.ensures.room c.clear_hashed.ensures.room
    (same-kept _ _ c.clear_ordered.ensures.memory))

pub returns-clause-fits : goal.returns-clause-fits
returns-clause-fits c = fits-empty c.self.inside.ordered.items (left c) c.clear_ordered.ensures.empty
