use Rattle.std.proofs.Common.{◌≡◌, ◌∙◌, ◌<◌, ◌≤◌, ◌+◌, Some, None, length, refl, sym, ap, arith}
use Rattle.iddqd.specs.ItemSet.{SizedStore}
use Rattle.iddqd.specs.Store.{get, removed}
use Rattle.iddqd_map.proofs.BulkLemmas.{Giving, Giving-first, Giving-all, Giving-vacant, Giving-takes, Giving-given}
use Rattle.iddqd_map.proofs.map.drains.give_all.Goals as goal

pub loop-at-init : goal.loop-at-init
loop-at-init g c = record {
  giving = Giving-first g.F.FnMut c.args.gone.now c.args.items.now.store c.requires;
  slots = refl;
}

pub give_slot-requires : goal.give_slot-requires
give_slot-requires g c = λ item live.
    let now = c.loop-at.items.store in
    let within : c.loop-at.at < length c.args.items.now.store.items = omega arith in
    Giving-takes g.F.FnMut c.args.gone.now c.args.items.now.store now c.loop-at.at c.loop-at.gone c.loop-at.invariant.giving within item
    (ap (get now) (sym c.new.ensures) ∙ live)

pub loop-at-preserved : goal.loop-at-preserved
loop-at-preserved g c =
    let i = c.loop-at.invariant in
    let old = c.args.items.now.store in
    let now = c.loop-at.items.store in
    let at = c.loop-at.at in
    let f = c.args.gone.now in
    let then = c.give_slot.new.items in
    let last = c.give_slot.new.gone in
    let did = c.give_slot.ensures in
    let within : at < length old.items = omega arith in
    elim (get now at) as (λ o. get now at ≡ o → record {
      giving : Giving g.F.FnMut f old then.store (at + 1) last;
      slots : then.capacity ≡ c.args.items.now.capacity;
    }) [
      | None ↦ λ is.
          let both = did.vacant (ap (get now) c.new.ensures ∙ is) in
          let same = ap (λ (s : SizedStore _). s.store) both.0 in
          record {
            giving = rw (same, both.1) (Giving-vacant g.F.FnMut f old now at c.loop-at.gone i.giving within is);
            slots = ap (λ (s : SizedStore _). s.capacity) both.0 ∙ i.slots;
          }
      | Some item ↦ λ live.
          let (gives, made) = did.given item (ap (get now) c.new.ensures ∙ live) in
          let is = ap (λ (s : SizedStore _). s.store) made ∙ ap (removed now) c.new.ensures in
          record {
            giving = Giving-given g.F.FnMut f old now at c.loop-at.gone i.giving within item live last then.store gives is;
            slots = ap (λ (s : SizedStore _). s.capacity) made ∙ i.slots;
          }
    ] refl

pub returns-clause-given : goal.returns-clause-given
returns-clause-given g c =
    let past : length c.args.items.now.store.items ≤ c.loop-at.at = omega arith in
    Giving-all g.F.FnMut c.args.gone.now c.args.items.now.store c.loop-at.items.store c.loop-at.at c.loop-at.gone c.loop-at.invariant.giving past

pub returns-clause-limit : goal.returns-clause-limit
returns-clause-limit g c = c.loop-at.invariant.giving.limit
