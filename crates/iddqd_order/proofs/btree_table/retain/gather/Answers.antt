use Rattle.std.proofs.Common.{rules, ◌≡◌, ◌∙◌, true, false, refl, sym, arith, drop-set-lt}
use Rattle.std.proofs.lemmas.List.{append-nil}
use Rattle.std.proofs.lemmas.Grind.{take-set_at}
use Rattle.iddqd_order.specs.Asks.{At_once}
use Rattle.iddqd_order.specs.Node.{flat}
use Rattle.iddqd_order.proofs.GatherLemmas.{gathers-none, next_held, gathers-next, gathers-all}
use Rattle.iddqd_order.proofs.SpotCursorLemmas.{IsSpotCursor-first, IsSpotCursor-same}
use Rattle.iddqd_order.proofs.btree_table.retain.gather.Goals as goal

pub loop-from-init : goal.loop-from-init
loop-from-init g c =
    let r = c.first-from.ensures in
    let w = c.first-to.ensures in
    record {
      formed = c.requires.formed;
      some = c.requires.some;
      inners = refl;
      from = IsSpotCursor-first c.args.height c.args.root.now c.first-from.result c.requires.formed c.requires.some c.requires.levels r.path r.places r.level r.place;
      to = IsSpotCursor-first c.args.height c.args.root.now c.first-to.result c.requires.formed c.requires.some c.requires.levels w.path w.places w.level w.place;
      gathers = gathers-none g.F.FnMut c.args.f.now (flat c.args.height c.args.root.now) c.first-from.result.place c.first-to.result.place r.place w.place c.requires.can_ask;
    }

pub f-requires : goal.f-requires
f-requires g c =
    let i = c.loop-from.invariant in
    let counted = i.gathers.counted in
    let len = c.requires.counted in
    let test = c.loop-from-test.true in
    i.gathers.can.at 0 c.loop-from.f At_once c.step-ix.result
    (next_held g.F.FnMut c.step-ix.result i.gathers (omega arith) c.step-ix.ensures.index)

pub loop-from-preserved : goal.loop-from-preserved
loop-from-preserved g c =
    let i = c.loop-from.invariant in
    let counted = i.gathers.counted in
    let len = c.requires.counted in
    let test = c.loop-from-test.true in
    let no : c.f.result ≡ false = search rules in
    record {
      formed = i.formed;
      some = i.some;
      inners = i.inners;
      from = c.step-ix.ensures.stands;
      to = i.to;
      gathers =
          gathers-next g.F.FnMut c.step-ix.result c.f.result c.step-ix.new.self.place c.loop-from.to.place
          (flat c.args.height c.loop-from.root) c.f.new.self i.gathers
          (omega arith) c.step-ix.ensures.index c.f.ensures c.step-ix.ensures.place
          (rw no (sym (append-nil _))) refl refl (omega arith);
    }

pub loop-from-preserved-then-f : goal.loop-from-preserved-then-f
loop-from-preserved-then-f g c =
    let i = c.loop-from.invariant in
    let counted = i.gathers.counted in
    let few = i.gathers.few in
    let len = c.requires.counted in
    let test = c.loop-from-test.true in
    let yes : c.f.result ≡ true = search rules in
    let put = c.replace.ensures in let rows = put.same_length in let some = i.some in
    let old = flat c.args.height c.loop-from.root in let place = c.loop-from.to.place in
    record {
      formed = put.formed;
      some = omega arith;
      inners = put.inners ∙ i.inners;
      from = IsSpotCursor-same c.args.height c.loop-from.root c.replace.new.root c.step-ix.new.self put.same_places c.step-ix.ensures.stands;
      to = put.stands;
      gathers =
          gathers-next g.F.FnMut c.step-ix.result c.f.result c.step-ix.new.self.place c.replace.new.self.place
          (flat c.args.height c.replace.new.root) c.f.new.self i.gathers
          (omega arith) c.step-ix.ensures.index c.f.ensures c.step-ix.ensures.place
          (rw (yes, put.items) (take-set_at old place c.replace.new.self.place c.step-ix.result put.place (omega arith))) (rw put.items (drop-set-lt c.step-ix.new.self.place old place c.step-ix.result (omega arith))) put.same_places.long (omega arith);
    }

pub returns : goal.returns
returns g c = record {
  kept = (
      let i = c.loop-from.invariant in
      let counted = i.gathers.counted in
      let len = c.requires.counted in
      let test = c.loop-from-test.false in
      gathers-all g.F.FnMut i.gathers (omega arith));
  inners = search rules;
  within = search rules;
  counted = search rules;
  some = search rules;
  formed = search rules;
}

pub replace-requires-clause-levels : goal.replace-requires-clause-levels
replace-requires-clause-levels g c = c.requires.levels
