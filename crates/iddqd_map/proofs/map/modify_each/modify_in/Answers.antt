use Rattle.std.proofs.Common.{◌≡◌, ◌∙◌, ◌<◌, ◌≤◌, ◌+◌, Some, None, length, refl, sym, ap, subst, arith}
use Rattle.iddqd.specs.ItemSet.{SizedStore}
use Rattle.iddqd.specs.Store.{get, rebound}
use Rattle.iddqd.proofs.LiveLemmas.{live_at}
use Rattle.iddqd_map.specs.KeyIndex.{IsIndexed}
use Rattle.iddqd_map.proofs.MapLemmas.{IsIndexed-rebound}
use Rattle.iddqd_map.proofs.ModifyLemmas.{Modifying, Modifying-first, Modifying-all, Modifying-vacant, Modifying-takes, Modifying-called}
use Rattle.iddqd_map.proofs.map.modify_each.modify_in.Goals as goal

pub loop-at-init : goal.loop-at-init
loop-at-init g c = record {
  kept = c.requires.indexed;
  modifying = Modifying-first g.F.FnMut c.args.f.now c.args.items.now.store c.requires.callable;
  slots = refl;
}

pub modify_slot-requires : goal.modify_slot-requires
modify_slot-requires g c = λ item live.
    let now = c.loop-at.items.store in
    let within : c.loop-at.at < length c.args.items.now.store.items = omega arith in
    Modifying-takes g.F.FnMut c.args.f.now c.args.items.now.store now c.loop-at.at c.loop-at.f c.loop-at.invariant.modifying within item
    (ap (get now) (sym c.new.ensures) ∙ live)

pub loop-at-preserved : goal.loop-at-preserved
loop-at-preserved g c =
    let i = c.loop-at.invariant in
    let old = c.args.items.now.store in
    let now = c.loop-at.items.store in
    let at = c.loop-at.at in
    let f = c.args.f.now in
    let then = c.modify_slot.new.items in
    let last = c.modify_slot.new.f in
    let did = c.modify_slot.ensures in
    let state = c.args.state.now in
    let indexes = c.args.indexes.now in
    let within : at < length old.items = omega arith in
    elim (get now at) as (λ o. get now at ≡ o → record {
      kept : IsIndexed (g.X.KeyIndex.indexes indexes) state then.store;
      modifying : Modifying g.F.FnMut f old then.store (at + 1) last;
      slots : then.capacity ≡ c.args.items.now.capacity;
    }) [
      | None ↦ λ is.
          let both = did.vacant (ap (get now) c.new.ensures ∙ is) in
          let same = ap (λ (s : SizedStore _). s.store) both.0 in
          record {
            kept = subst (IsIndexed (g.X.KeyIndex.indexes indexes) state) (sym same) i.kept;
            modifying = rw (same, both.1) (Modifying-vacant g.F.FnMut f old now at c.loop-at.f i.modifying within is);
            slots = ap (λ (s : SizedStore _). s.capacity) both.0 ∙ i.slots;
          }
      | Some item ↦ λ live.
          let (left, called, made) = did.called item (ap (get now) c.new.ensures ∙ live) in
          let is = ap (λ (s : SizedStore _). s.store) made ∙ ap (λ k. rebound now k left) c.new.ensures in
          let was = sym (i.modifying.rest at (omega arith)) ∙ live in
          let same = c.requires.keeps c.loop-at.f item last left (at, was) called in
          record {
            kept = IsIndexed-rebound _ state now then.store at left is i.kept.valid (live_at now at item live)
                (g.met.X.IndexLaws.modified indexes state now at item left i.kept.indexed live same);
            modifying = Modifying-called g.F.FnMut f old now at c.loop-at.f i.modifying within item live left last then.store called is i.kept.valid;
            slots = ap (λ (s : SizedStore _). s.capacity) made ∙ i.slots;
          }
    ] refl

pub returns-clause-modified : goal.returns-clause-modified
returns-clause-modified g c =
    let past : length c.args.items.now.store.items ≤ c.loop-at.at = omega arith in
    Modifying-all g.F.FnMut c.args.f.now c.args.items.now.store c.loop-at.items.store c.loop-at.at c.loop-at.f c.loop-at.invariant.modifying past

pub returns-clause-vacant : goal.returns-clause-vacant
returns-clause-vacant g c = c.loop-at.invariant.modifying.vacant

pub returns-clause-count : goal.returns-clause-count
returns-clause-count g c = c.loop-at.invariant.modifying.count

pub returns-clause-limit : goal.returns-clause-limit
returns-clause-limit g c = c.loop-at.invariant.modifying.limit
