use Rattle.std.proofs.Common.{◌≤◌, ◌-◌, min, subst}
use Rattle.iddqd.specs.Store.{live_count}
use Rattle.iddqd_hash.specs.HashTable as hash_table
use Rattle.iddqd_layer.specs.Layer.{Layer, FitsItsMemory, room, store_of}
use Rattle.iddqd_layer.proofs.LayerLemmas.{hashed-same, ordered-same, paired, shrunk-same}
use Rattle.iddqd_layer.proofs.RoomLemmas.{each-left, room-left, shrunk-fits, shrunk-hashed, shrunk-ordered, shrunk-slots}
use Rattle.iddqd_layer.proofs.layer.Layer.shrink_to.Goals as goal

pub invariant_of-self : goal.invariant_of-self
invariant_of-self c =
    let l = c.self.inside in let s = l.items.store in
    paired _ s c.shrink_capacity_to.ensures.contents c.self.invariant.valid c.self.invariant.hashed
    (ordered-same s l.ordered.items c.shrink_ordered.new.tables.items c.self.invariant.ordered
    (shrunk-same c.args.least _ _ c.shrink_ordered.ensures))

pub invariant_of-self-2 : goal.invariant_of-self-2
invariant_of-self-2 c =
    let l = c.self.inside in let s = l.items.store in
    paired _ s c.shrink_capacity_to.ensures.contents c.self.invariant.valid
    (hashed-same s l.hashed.items c.shrink_hashed.new.tables.items c.self.invariant.hashed c.shrink_hashed.ensures.same)
    (ordered-same s l.ordered.items c.shrink_ordered.new.tables.items c.self.invariant.ordered
    (shrunk-same c.args.least _ _ c.shrink_ordered.ensures))

pub returns-in_err-shrink_capacity_to-clause-room : goal.returns-in_err-shrink_capacity_to-clause-room
returns-in_err-shrink_capacity_to-clause-room c =
    let l = c.self.inside in let s = l.items.store in let n = c.args.least in
    let new : Layer = record {
      slots = c.shrink_capacity_to.new.self;
      hashed = l.hashed.items;
      ordered = c.shrink_ordered.new.tables.items;
    } in
    subst (λ z. min (room z) (n - live_count (store_of z)) ≤ room new) c.self.view_is
    (room-left n (record { slots = l.items; hashed = l.hashed.items; ordered = l.ordered.items }) new (live_count s)
    (shrunk-slots n l.items new.slots c.self.invariant.valid c.shrink_capacity_to.ensures.contents
    c.shrink_capacity_to.ensures.never_less)
    (each-left hash_table.room (n - live_count s) l.hashed.items)
    (shrunk-ordered n s l.ordered.items new.ordered c.self.invariant.ordered c.shrink_ordered.ensures))

pub returns-in_err-shrink_capacity_to-clause-fits : goal.returns-in_err-shrink_capacity_to-clause-fits
returns-in_err-shrink_capacity_to-clause-fits c =
    let l = c.self.inside in
    let new : Layer = record {
      slots = c.shrink_capacity_to.new.self;
      hashed = l.hashed.items;
      ordered = c.shrink_ordered.new.tables.items;
    } in
    subst (λ z. FitsItsMemory z → FitsItsMemory new) c.self.view_is
    (shrunk-fits c.args.least _ _ c.shrink_ordered.ensures)

pub returns-clause-room : goal.returns-clause-room
returns-clause-room c =
    let l = c.self.inside in let s = l.items.store in let n = c.args.least in
    let new : Layer = record {
      slots = c.shrink_capacity_to.new.self;
      hashed = c.shrink_hashed.new.tables.items;
      ordered = c.shrink_ordered.new.tables.items;
    } in
    subst (λ z. min (room z) (n - live_count (store_of z)) ≤ room new) c.self.view_is
    (room-left n (record { slots = l.items; hashed = l.hashed.items; ordered = l.ordered.items }) new (live_count s)
    (shrunk-slots n l.items new.slots c.self.invariant.valid c.shrink_capacity_to.ensures.contents
    c.shrink_capacity_to.ensures.never_less)
    (shrunk-hashed n s l.hashed.items new.hashed c.self.invariant.hashed c.shrink_hashed.ensures.room)
    (shrunk-ordered n s l.ordered.items new.ordered c.self.invariant.ordered c.shrink_ordered.ensures))

pub returns-clause-fits : goal.returns-clause-fits
returns-clause-fits c =
    let l = c.self.inside in
    let new : Layer = record {
      slots = c.shrink_capacity_to.new.self;
      hashed = c.shrink_hashed.new.tables.items;
      ordered = c.shrink_ordered.new.tables.items;
    } in
    subst (λ z. FitsItsMemory z → FitsItsMemory new) c.self.view_is
    (shrunk-fits c.args.least _ _ c.shrink_ordered.ensures)
