use Rattle.std.proofs.Common.{inl, inr, ◌∙◌, is_err, refl, sym, ap, arith}
use Rattle.std.proofs.lemmas.Grind.{common_steps}
use Rattle.std.proofs.lemmas.Bool.{false≢true}
use Rattle.iddqd.specs.GrowHandle.{handle_set}
use Rattle.iddqd.specs.Store.{next_index}
use Rattle.iddqd_order.specs.MapBTreeTable.{order_of, capacity as ordered_capacity}
use Rattle.iddqd_by_order.proofs.OrderedHoldsLemmas.{next_absent}
use Rattle.iddqd_by_order.proofs.OrderedPlaceLemmas.{AddsInPlace-prepared}
use Rattle.iddqd_driver.proofs.InsertLemmas.{none_before, not_both_errors, InsertsParts-same, InsertsParts-out_of_memory, InsertsParts-stored, store_has_room, table_has_room, order_has_room}
use Rattle.iddqd_driver.proofs.keyed_items.insert_item.Goals as goal

pub prepare-requires-clause-absent : goal.prepare-requires-clause-absent
prepare-requires-clause-absent g c = λ here.
    let next = c.next_index.ensures.index ∙ ap next_index c.in-Ok.ensures.contents in
    next_absent c.args.items.now.store _ c.requires.ordered c.requires.valid
    (rw (← next, ← c.in-Vacant.ensures.table) here)

pub prepare-requires-clause-assigned : goal.prepare-requires-clause-assigned
prepare-requires-clause-assigned g c = grind (arith, common_steps)

pub insert_prehashed_unchecked-requires-clause-room : goal.insert_prehashed_unchecked-requires-clause-room
insert_prehashed_unchecked-requires-clause-room g c = grind (arith, common_steps)

pub returns-in-Occupied : goal.returns-in-Occupied
returns-in-Occupied g c =
    record {
      first = refl;
      second = rw (← c.key2.ensures, c.get.ensures) c.in-Occupied.ensures.made;
      refused = (refl, inr refl);
      parts = InsertsParts-same g.T.KeyedItem.second_key g.T.Key2.Ord.cmp c.args.item c.args.hash c.args.items.now c.args.table.now c.args.order.now
          _ _ _ (λ _ never. never) refl (grind arith);
    }

pub returns-then-is_some : goal.returns-then-is_some
returns-then-is_some g c =
    record {
      first = refl;
      second = rw (← c.key2.ensures) c.in-Vacant.ensures.made.missed;
      refused = (refl, inl (sym c.is_some.ensures ∙ c.if-is_some.true));
      parts = InsertsParts-same g.T.KeyedItem.second_key g.T.Key2.Ord.cmp c.args.item c.args.hash c.args.items.now c.args.table.now c.args.order.now
          _ _ _ (λ _ never. never) refl (grind arith);
    }

pub returns-in-Err-Full : goal.returns-in-Err-Full
returns-in-Err-Full g c =
    record {
      first = none_before _ _ c.is_some.ensures c.if-is_some.false;
      second = rw (← c.key2.ensures) c.in-Vacant.ensures.made.missed;
      refused = (refl, c.assert_can_grow.ensures.full.0 (rw c.in-Err-Full.field-0-is at c.in-Err-Full.is));
      parts = InsertsParts-same g.T.KeyedItem.second_key g.T.Key2.Ord.cmp c.args.item c.args.hash c.args.items.now c.args.table.now c.args.order.now
          _ _ _ (λ _ never. never) (rw c.in-Err-Full.is at c.assert_can_grow.follows.holds-at-none) (grind arith);
    }

pub returns-in-Err-Memory : goal.returns-in-Err-Memory
returns-in-Err-Memory g c =
    let failed = rw c.in-Err-Memory.field-0-is at c.in-Err-Memory.is in
    record {
      first = none_before _ _ c.is_some.ensures c.if-is_some.false;
      second = rw (← c.key2.ensures) c.in-Vacant.ensures.made.missed;
      refused = (refl, λ full. not_both_errors _ (c.assert_can_grow.ensures.full.1 full) failed);
      parts = InsertsParts-same g.T.KeyedItem.second_key g.T.Key2.Ord.cmp c.args.item c.args.hash c.args.items.now c.args.table.now c.args.order.now
          _ _ _ (λ parts _. store_has_room g.T.KeyedItem.second_key g.T.Key2.Ord.cmp c.args.item c.args.hash c.args.items.now c.args.table.now c.args.order.now (c.assert_can_grow.ensures.memory failed) parts)
          (rw c.in-Err-Memory.is at c.assert_can_grow.follows.holds-at-none) (grind arith);
    }

pub returns-in-Err : goal.returns-in-Err
returns-in-Err g c =
    let grew = c.in-Ok.ensures in
    let reserved = c.in-Err.ensures in
    record {
      first = none_before _ _ c.is_some.ensures c.if-is_some.false;
      second = rw (← c.key2.ensures) c.in-Vacant.ensures.made.missed;
      refused = (refl, λ full. absurd (false≢true (ap is_err (grew.full.1 full))));
      parts = InsertsParts-out_of_memory g.T.KeyedItem.second_key g.T.Key2.Ord.cmp c.args.item c.args.hash c.args.items.now c.args.table.now c.args.order.now
          (handle_set c.in-Ok.handle) c.try_reserve.new.self c.requires.valid grew.contents grew.capacity grew.kept grew.grown
          reserved.contents reserved.few reserved.capacity reserved.counted _ _ _ reserved.memory
          (table_has_room g.T.KeyedItem.second_key g.T.Key2.Ord.cmp c.args.item c.args.hash c.args.items.now c.args.table.now c.args.order.now _ _ reserved.counted reserved.memory)
          (grind arith) (grind arith);
    }

pub returns-in-Err-prepare : goal.returns-in-Err-prepare
returns-in-Err-prepare g c =
    let grew = c.in-Ok.ensures in
    let reserved = c.try_reserve.ensures in
    record {
      first = none_before _ _ c.is_some.ensures c.if-is_some.false;
      second = rw (← c.key2.ensures) c.in-Vacant.ensures.made.missed;
      refused = (refl, λ full. absurd (false≢true (ap is_err (grew.full.1 full))));
      parts = InsertsParts-out_of_memory g.T.KeyedItem.second_key g.T.Key2.Ord.cmp c.args.item c.args.hash c.args.items.now c.args.table.now c.args.order.now
          (handle_set c.in-Ok.handle) c.try_reserve.new.self c.requires.valid grew.contents grew.capacity grew.kept grew.grown
          reserved.contents reserved.few reserved.capacity reserved.counted _ _ _ reserved.memory
          (order_has_room g.T.KeyedItem.second_key g.T.Key2.Ord.cmp c.args.item c.args.hash c.args.items.now c.args.table.now c.args.order.now _ c.in-Vacant.ensures.table c.in-Err-prepare.ensures.roomy)
          (grind arith) (grind arith);
    }

pub returns : goal.returns
returns g c =
    let compare = g.T.Key2.Ord.cmp in
    let grew = c.in-Ok.ensures in
    let reserved = c.try_reserve.ensures in
    let placed =
    AddsInPlace-prepared g.T.KeyedItem.second_key compare g.met.T.Key2.Ord.total c.args.items.now.store c.args.item
    (order_of c.args.order.now) (compare c.key2.result.now) c.requires.valid c.requires.ordered
    (λ k. ap (λ key. compare key k) c.key2.ensures) c.in-Vacant.vacant c.in-Ok-prepare.prepared c.next_index.result
    (order_of c.insert.result.now)
    (ap order_of c.in-Vacant.ensures.table) c.in-Vacant.ensures.made c.in-Ok-prepare.ensures.prepared
    (c.next_index.ensures.index ∙ ap next_index grew.contents) c.insert.ensures.inserted in
    record {
      first = none_before _ _ c.is_some.ensures c.if-is_some.false;
      second = rw (← c.key2.ensures) c.in-Vacant.ensures.made.missed;
      refused = tt;
      parts = InsertsParts-stored g.T.KeyedItem.second_key compare c.args.item c.args.hash c.args.items.now c.args.table.now c.args.order.now
          (handle_set c.in-Ok.handle) c.try_reserve.new.self c.requires.valid grew.contents grew.capacity grew.kept grew.grown
          reserved.contents reserved.few reserved.capacity reserved.counted
          c.try_reserve.result c.insert-ix.result _ c.insert_prehashed_unchecked.new.self c.insert.result.now _ reserved.memory
          (λ full. absurd (false≢true (ap is_err (grew.full.1 full)))) c.insert-ix.ensures.index (grind arith)
          c.insert_prehashed_unchecked.ensures.added c.insert_prehashed_unchecked.ensures.memory placed
          (c.insert.ensures.memory ∙ c.in-Ok-prepare.ensures.memory ∙ ap ordered_capacity c.in-Vacant.ensures.table) (grind arith);
    }
