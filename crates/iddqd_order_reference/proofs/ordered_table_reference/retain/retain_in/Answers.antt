use Rattle.std.proofs.Common.{◌≡◌, ◌+◌, ◌∙◌, true, false, refl, sym, ap, arith, length-set, drop-set-lt, vec_len, vec_capacity}
use Rattle.std.proofs.lemmas.List.{append-nil, get_or_default}
use Rattle.std.proofs.lemmas.Grind.{take-set_at}
use Rattle.iddqd_order.specs.Asks.{At_once}
use Rattle.iddqd_order.proofs.GatherLemmas.{gathers-none, next_held, gathers-next}
use Rattle.iddqd_order_reference.proofs.ordered_table_reference.retain.retain_in.Goals.{then-f, else-f}
use Rattle.iddqd_order_reference.proofs.ordered_table_reference.retain.retain_in.Goals as goal

pub loop-at-init : goal.loop-at-init
loop-at-init g c = record {
  gathers = gathers-none g.F.FnMut c.args.f.now c.args.items.now.items 0 0 refl refl c.requires;
  len = refl;
  capacity = refl;
}

pub f-requires : goal.f-requires
f-requires g c =
    let i = c.loop-at.invariant in
    let len = i.len in
    let same = c.loop-at.items.ok.0 in
    let test = c.loop-at-test.true in
    let end = c.len-at-end.ensures in
    i.gathers.can.at 0 c.loop-at.f At_once c.index-ix.result.now
    (next_held g.F.FnMut c.index-ix.result.now i.gathers (omega arith) (c.index-ix.ensures ∙ get_or_default c.loop-at.items.items c.loop-at.at _ 0 (omega arith)))

pub loop-at-preserved : goal.loop-at-preserved
loop-at-preserved g c =
    let i = c.loop-at.invariant in
    let len = i.len in
    let same = c.loop-at.items.ok.0 in
    let test = c.loop-at-test.true in
    let end = c.len-at-end.ensures in
    let few = i.gathers.few in
    let xs = c.loop-at.items.items in
    let ix = c.index-ix.result.now in
    let is = c.index-ix.ensures ∙ get_or_default xs c.loop-at.at _ 0 (omega arith) in
    elim c.if-f.branch [
      | then-f w ↦
          let yes : c.f.result ≡ true = w.if-f.true in
          record {
            gathers =
                rw (w.items-is, w.kept-is) (gathers-next g.F.FnMut ix c.f.result (c.loop-at.at + 1) (c.loop-at.kept + 1) _ c.f.new.self i.gathers (omega arith) is c.f.ensures refl
                (rw yes (take-set_at xs c.loop-at.kept (c.loop-at.kept + 1) ix refl (omega arith))) (drop-set-lt (c.loop-at.at + 1) xs c.loop-at.kept ix (omega arith)) (length-set xs c.loop-at.kept ix) (omega arith));
            len = ap (λ v. vec_len v) w.items-is ∙ i.len;
            capacity = ap (λ v. vec_capacity v) w.items-is ∙ i.capacity;
          }
      | else-f w ↦
          let no : c.f.result ≡ false = w.if-f.false in
          record {
            gathers =
                rw (w.items-is, w.kept-is) (gathers-next g.F.FnMut ix c.f.result (c.loop-at.at + 1) c.loop-at.kept xs c.f.new.self i.gathers
                (omega arith) is c.f.ensures refl (rw no (sym (append-nil _))) refl refl (omega arith));
            len = ap (λ v. vec_len v) w.items-is ∙ i.len;
            capacity = ap (λ v. vec_capacity v) w.items-is ∙ i.capacity;
          }
    ]
