use Rattle.std.proofs.Common.{rules, ◌≡◌, ◌∙◌, ◌<◌, ◌≤◌, true, false, Some, None, length, refl, sym, ap, arith}
use Rattle.std.specs.Fn.{TakesAt, CalledAt}
use Rattle.std.proofs.lemmas.Fn.{called_at}
use Rattle.iddqd.specs.Store.{get, removed}
use Rattle.iddqd.specs.ItemSet.{SizedStore}
use Rattle.iddqd_map.proofs.IntoLemmas.{RetainingInto-first, RetainingInto-all, RetainingInto-vacant, RetainingInto-takes, RetainingInto-kept, RetainingInto-removed}
use Rattle.iddqd_map.proofs.RetainLemmas.{Retaining-first, Retaining-all, Retaining-vacant, takes-next, Retaining-kept, Retaining-removed}
use Rattle.iddqd_map.proofs.map.retain_into.retain_in.Goals.{then-not-keep, else-not-keep}
use Rattle.iddqd_map.proofs.map.retain_into.retain_in.Goals as goal

pub loop-at-init : goal.loop-at-init
loop-at-init g c = record {
  kept = c.requires.indexed;
  retaining = Retaining-first (TakesAt g.F.FnMut) (CalledAt g.F.FnMut) c.args.keep.now c.args.items.now.store c.requires.asked;
  into = RetainingInto-first (CalledAt g.F.FnMut) g.G.FnMut c.args.keep.now c.args.gone.now c.args.items.now.store c.requires.given;
  slots = refl;
  capacity = refl;
  cells = refl;
}

pub loop-at-preserved-in_default : goal.loop-at-preserved-in_default
loop-at-preserved-in_default g c =
    let i = c.loop-at.invariant in
    let now = c.loop-at.items.store in
    let at = c.loop-at.at in
    let within : at < length c.args.items.now.store.items = omega arith in
    let vacant : get now at ≡ None = ap (get now) (sym c.new-ix.ensures) ∙ sym c.in_default.ensures in
    let was = sym (i.retaining.rest at (omega arith)) ∙ vacant in
    record {
      kept = i.kept;
      retaining = Retaining-vacant (TakesAt g.F.FnMut) (CalledAt g.F.FnMut) c.args.keep.now c.args.items.now.store now at c.loop-at.keep i.retaining within vacant;
      into = RetainingInto-vacant (CalledAt g.F.FnMut) g.G.FnMut c.args.keep.now c.args.gone.now c.args.items.now.store now at c.loop-at.keep c.loop-at.gone i.into within was;
      slots = i.slots;
      capacity = i.capacity;
      cells = i.cells;
    }

pub keep-requires : goal.keep-requires
keep-requires g c =
    let now = c.loop-at.items.store in
    let within : c.loop-at.at < length c.args.items.now.store.items = omega arith in
    let live : get now c.loop-at.at ≡ Some c.in-Some.item.now = ap (get now) (sym c.new-ix.ensures) ∙ sym c.in-Some.ensures in
    takes-next (TakesAt g.F.FnMut) (CalledAt g.F.FnMut) c.args.keep.now c.args.items.now.store now c.loop-at.at c.loop-at.keep c.loop-at.invariant.retaining within c.in-Some.item.now live c.in-Some.item refl

pub give_out-requires-clause-given : goal.give_out-requires-clause-given
give_out-requires-clause-given g c = λ item there.
    let i = c.loop-at.invariant in
    let now = c.loop-at.items.store in
    let at = c.loop-at.at in
    let within : at < length c.args.items.now.store.items = omega arith in
    let was = sym (i.retaining.rest at (omega arith)) ∙ ap (get now) (sym c.new-ix.ensures) ∙ there in
    RetainingInto-takes (CalledAt g.F.FnMut) g.G.FnMut c.args.keep.now c.args.gone.now c.args.items.now.store now at c.loop-at.keep c.loop-at.gone i.into within item was

pub loop-at-preserved : goal.loop-at-preserved
loop-at-preserved g c =
    let i = c.loop-at.invariant in
    let old = c.args.items.now.store in
    let now = c.loop-at.items.store in
    let at = c.loop-at.at in
    let item = c.in-Some.item.now in
    let within : at < length old.items = omega arith in
    let live : get now at ≡ Some item = ap (get now) (sym c.new-ix.ensures) ∙ sym c.in-Some.ensures in
    let was = sym (i.retaining.rest at (omega arith)) ∙ live in
    elim c.if-not-keep.branch [
      | then-not-keep w ↦
          let no : c.keep.result ≡ false = search rules in
          let asked : CalledAt g.F.FnMut c.loop-at.keep item false c.keep.new.self = called_at g.F.FnMut c.keep.ensures no in
          let did = w.give_out.ensures in
          let gone = ap (λ (s : SizedStore _). s.store) did.removed ∙ ap (removed now) c.new-ix.ensures in
          let gives = did.given item (ap (get now) c.new-ix.ensures ∙ live) in
          rw (w.items-is, w.indexes-is, w.gone-is)
          (record {
            kept = did.map;
            retaining = Retaining-removed (TakesAt g.F.FnMut) (CalledAt g.F.FnMut) c.args.keep.now old now at c.loop-at.keep i.retaining within item live w.give_out.new.items.store c.keep.new.self gone asked;
            into = RetainingInto-removed (CalledAt g.F.FnMut) g.G.FnMut c.args.keep.now c.args.gone.now old now at c.loop-at.keep c.loop-at.gone i.into within item was c.keep.new.self w.give_out.new.gone w.give_out.new.items.store asked gives gone;
            slots = ap (λ (s : SizedStore _). s.capacity) did.removed ∙ i.slots;
            capacity = did.capacity ∙ i.capacity;
            cells = did.cells ∙ i.cells;
          })
      | else-not-keep w ↦
          let yes : c.keep.result ≡ true = search rules in
          let asked : CalledAt g.F.FnMut c.loop-at.keep item true c.keep.new.self = called_at g.F.FnMut c.keep.ensures yes in
          rw (w.items-is, w.indexes-is, w.gone-is)
          (record {
            kept = i.kept;
            retaining = Retaining-kept (TakesAt g.F.FnMut) (CalledAt g.F.FnMut) c.args.keep.now old now at c.loop-at.keep i.retaining within item live c.keep.new.self asked;
            into = RetainingInto-kept (CalledAt g.F.FnMut) g.G.FnMut c.args.keep.now c.args.gone.now old now at c.loop-at.keep c.loop-at.gone i.into within item was c.keep.new.self asked;
            slots = i.slots;
            capacity = i.capacity;
            cells = i.cells;
          })
    ]

pub returns-clause-retained : goal.returns-clause-retained
returns-clause-retained g c =
    let past : length c.args.items.now.store.items ≤ c.loop-at.at = omega arith in
    Retaining-all (TakesAt g.F.FnMut) (CalledAt g.F.FnMut) c.args.keep.now c.args.items.now.store c.loop-at.items.store c.loop-at.at c.loop-at.keep c.loop-at.invariant.retaining past

pub returns-clause-given : goal.returns-clause-given
returns-clause-given g c =
    let past : length c.args.items.now.store.items ≤ c.loop-at.at = omega arith in
    RetainingInto-all (CalledAt g.F.FnMut) g.G.FnMut c.args.keep.now c.args.gone.now c.args.items.now.store c.loop-at.items.store c.loop-at.at c.loop-at.keep c.loop-at.gone c.loop-at.invariant.into past
