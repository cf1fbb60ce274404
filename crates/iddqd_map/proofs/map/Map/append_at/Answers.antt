use Rattle.std.proofs.Common.{◌≡◌, ◌∙◌, Some, refl, sym, ap, subst}
use Rattle.iddqd.specs.ItemSet.{SizedStore}
use Rattle.iddqd.specs.Store.{IsFull, inserted, next_index}
use Rattle.iddqd_keys.specs.Scan.{HasNoHit}
use Rattle.iddqd_map.proofs.AppendLemmas.{AppendsItem-moved, AppendsItem-kept}
use Rattle.iddqd_map.proofs.MapLemmas.{IsIndexed-inserted}
use Rattle.iddqd_map.proofs.map.Map.append_at.Goals as goal

pub invariant_of-self : goal.invariant_of-self
invariant_of-self g c =
    let item = c.in-Some.item.now in
    let state = c.self.inside.state in
    let s = c.prepare.new.items.store in
    let did = c.in-Ok.ensures in
    let stays = sym did.prepares.store_stays in
    let free = subst (λ t. IsFull t → ⊥) stays did.prepares.not_full in
    let apart = subst (λ t. HasNoHit t (g.X.KeyIndex.alike item)) stays did.prepares.no_conflict in
    let next = did.prepares.index ∙ ap next_index stays in
    let one : Some c.in-Some-take_out.item ≡ Some item = c.in-Some-take_out.ensures.value ∙ sym c.in-Some.ensures in
    let same : c.in-Some-take_out.item ≡ item = cc in
    let stored = ap (λ (t : SizedStore _). t.store) c.store_in_room.ensures.stored ∙ ap (inserted s) same in
    IsIndexed-inserted _ state s _ item stored did.map.valid free
    (c.insert.ensures.indexed state s item did.map.indexed did.map.valid free next apart c.hashes-hashes.ensures did.planned)

pub returns-in-Some-take_out : goal.returns-in-Some-take_out
returns-in-Some-take_out g c =
    let item = c.in-Some.item.now in
    let did = c.in-Ok.ensures in
    let one : Some c.in-Some-take_out.item ≡ Some item = c.in-Some-take_out.ensures.value ∙ sym c.in-Some.ensures in
    let same : c.in-Some-take_out.item ≡ item = cc in
    rw (← c.self.view_is, ← c.other.view_is)
    (AppendsItem-moved g.X.KeyIndex.alike g.X.KeyIndex.grown c.args.ix item _ _ _ _ (sym c.in-Some.ensures) c.in-Ok.next (
      record {
        no_conflict = did.prepares.no_conflict;
        not_full = did.prepares.not_full;
        index = did.prepares.index;
        stored = ap (λ (t : SizedStore _). t.store) c.store_in_room.ensures.stored
            ∙ ap (inserted c.prepare.new.items.store) same ∙ ap (λ t. inserted t item) did.prepares.store_stays;
        memory = rw (c.store_in_room.ensures.stored, c.insert.ensures.capacity, c.insert.ensures.cells) did.prepares.memory;
      },
      rw (c.take_out.ensures.removed, c.take_out.ensures.capacity, c.take_out.ensures.cells) refl,
    ))

pub returns-in-Err-Conflict : goal.returns-in-Err-Conflict
returns-in-Err-Conflict g c =
    let item = c.in-Some.item.now in
    let s = c.self.inside.items.store in
    rw (← c.self.view_is, ← c.other.view_is)
    (AppendsItem-kept g.X.KeyIndex.alike g.X.KeyIndex.grown c.args.ix item _ _ _ _ (sym c.in-Some.ensures)
    g.X.Changes.conflicts
    (λ at conflicts.
    let (ix, one) = g.met.X.PlanLaws.reported_some s item at conflicts in
    (ix, (g.met.X.PlanLaws.reported s item at conflicts ix).0 one))
    c.in-Err-Conflict.field-0 c.in-Err-Conflict.field-0-0 c.in-Err-Conflict.field-0-is
    c.in-Err-Conflict.ensures.prevented refl)
