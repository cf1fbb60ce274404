use Rattle.std.proofs.Common.{rules, ◌≡◌, ◌∙◌, ◌<◌, ◌≤◌, true, false, Some, None, length, refl, sym, ap, arith}
use Rattle.std.specs.Fn.{TakesAt, CalledAt}
use Rattle.std.proofs.lemmas.Fn.{called_at}
use Rattle.iddqd.specs.Store.{get, removed}
use Rattle.iddqd.specs.ItemSet.{SizedStore}
use Rattle.iddqd_map.proofs.RetainLemmas.{Retaining-first, Retaining-all, Retaining-vacant, takes-next, Retaining-kept, Retaining-removed}
use Rattle.iddqd_map.proofs.map.retain.retain_in.Goals.{then-not-f, else-not-f}
use Rattle.iddqd_map.proofs.map.retain.retain_in.Goals as goal

pub loop-at-init : goal.loop-at-init
loop-at-init g c = record {
  kept = c.requires.indexed;
  retaining = Retaining-first (TakesAt g.F.FnMut) (CalledAt g.F.FnMut) c.args.f.now c.args.items.now.store c.requires.can_ask;
  slots = refl;
  capacity = refl;
  cells = refl;
}

pub loop-at-preserved-in_default : goal.loop-at-preserved-in_default
loop-at-preserved-in_default g c =
    let i = c.loop-at.invariant in
    let now = c.loop-at.items.store in
    let within : c.loop-at.at < length c.args.items.now.store.items = omega arith in
    let vacant : get now c.loop-at.at ≡ None = ap (get now) (sym c.new-ix.ensures) ∙ sym c.in_default.ensures in
    record {
      kept = i.kept;
      retaining = Retaining-vacant (TakesAt g.F.FnMut) (CalledAt g.F.FnMut) c.args.f.now c.args.items.now.store now c.loop-at.at c.loop-at.f i.retaining within vacant;
      slots = i.slots;
      capacity = i.capacity;
      cells = i.cells;
    }

pub f-requires : goal.f-requires
f-requires g c =
    let now = c.loop-at.items.store in
    let within : c.loop-at.at < length c.args.items.now.store.items = omega arith in
    let live : get now c.loop-at.at ≡ Some c.in-Some.item.now = ap (get now) (sym c.new-ix.ensures) ∙ sym c.in-Some.ensures in
    takes-next (TakesAt g.F.FnMut) (CalledAt g.F.FnMut) c.args.f.now c.args.items.now.store now c.loop-at.at c.loop-at.f c.loop-at.invariant.retaining within c.in-Some.item.now live c.in-Some.item refl

pub loop-at-preserved : goal.loop-at-preserved
loop-at-preserved g c =
    let i = c.loop-at.invariant in
    let now = c.loop-at.items.store in
    let item = c.in-Some.item.now in
    let within : c.loop-at.at < length c.args.items.now.store.items = omega arith in
    let live : get now c.loop-at.at ≡ Some item = ap (get now) (sym c.new-ix.ensures) ∙ sym c.in-Some.ensures in
    elim c.if-not-f.branch [
      | then-not-f w ↦
          let no : c.f.result ≡ false = search rules in
          let asked : CalledAt g.F.FnMut c.loop-at.f item false c.f.new.self = called_at g.F.FnMut c.f.ensures no in
          let did = w.take_out.ensures in
          let gone = ap (λ (s : SizedStore _). s.store) did.removed ∙ ap (removed now) c.new-ix.ensures in
          rw (w.items-is, w.indexes-is)
          (record {
            kept = did.map;
            retaining = Retaining-removed (TakesAt g.F.FnMut) (CalledAt g.F.FnMut) c.args.f.now c.args.items.now.store now c.loop-at.at c.loop-at.f i.retaining within item live w.take_out.new.items.store c.f.new.self gone asked;
            slots = ap (λ (s : SizedStore _). s.capacity) did.removed ∙ i.slots;
            capacity = did.capacity ∙ i.capacity;
            cells = did.cells ∙ i.cells;
          })
      | else-not-f w ↦
          let yes : c.f.result ≡ true = search rules in
          let asked : CalledAt g.F.FnMut c.loop-at.f item true c.f.new.self = called_at g.F.FnMut c.f.ensures yes in
          rw (w.items-is, w.indexes-is)
          (record {
            kept = i.kept;
            retaining = Retaining-kept (TakesAt g.F.FnMut) (CalledAt g.F.FnMut) c.args.f.now c.args.items.now.store now c.loop-at.at c.loop-at.f i.retaining within item live c.f.new.self asked;
            slots = i.slots;
            capacity = i.capacity;
            cells = i.cells;
          })
    ]

pub returns-clause-retained : goal.returns-clause-retained
returns-clause-retained g c =
    let past : length c.args.items.now.store.items ≤ c.loop-at.at = omega arith in
    Retaining-all (TakesAt g.F.FnMut) (CalledAt g.F.FnMut) c.args.f.now c.args.items.now.store c.loop-at.items.store c.loop-at.at c.loop-at.f c.loop-at.invariant.retaining past
