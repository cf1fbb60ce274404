use Rattle.std.proofs.Common.{rules, ◌≡◌, ◌∙◌, true, false, refl, ap}
use Rattle.std.specs.Fn.{TakesAt, CalledAt}
use Rattle.std.proofs.lemmas.Fn.{called_at}
use Rattle.iddqd.specs.Store.{removed}
use Rattle.iddqd.specs.ItemSet.{SizedStore}
use Rattle.iddqd_map.specs.Bulk.{AsksAndGives, TakesBoth}
use Rattle.iddqd_order.specs.Iter.{indexes_left}
use Rattle.iddqd_order.specs.MapBTreeTable.{order_of}
use Rattle.iddqd_ord_map.proofs.RetainLemmas.{Retaining-none, live-next, takes-next, Retaining-kept, Retaining-removed}
use Rattle.iddqd_ord_map.proofs.id_ord_map.retain.remove_refused.Goals as goal

pub loop-ix-init : goal.loop-ix-init
loop-ix-init g c =
    let takes = TakesBoth g.G.FnMut (TakesAt g.F.FnMut) in
    let ask = AsksAndGives g.G.FnMut (CalledAt g.F.FnMut) in
    let all = ap indexes_left c.into_iter-ix-iterator.ensures.into_iter_gives ∙ c.iter-ix-items.ensures.left in
    record { retaining = Retaining-none takes ask (c.args.keep.now, c.args.gone.now) c.args.items.now.store (order_of c.args.table.now) _ all c.requires.valid c.requires.held c.requires.can_ask; slots = refl }

pub item_at-requires : goal.item_at-requires
item_at-requires g c =
    let takes = TakesBoth g.G.FnMut (TakesAt g.F.FnMut) in
    let ask = AsksAndGives g.G.FnMut (CalledAt g.F.FnMut) in
    live-next takes ask (c.args.keep.now, c.args.gone.now) c.args.items.now.store c.loop-ix.items.store (order_of c.args.table.now) (indexes_left c.loop-ix.ix-iterator) (indexes_left c.next.new.self) c.in-Some.ix (c.loop-ix.keep, c.loop-ix.gone) c.in-Some.ensures.steps c.loop-ix.invariant.retaining

pub keep-requires : goal.keep-requires
keep-requires g c =
    let takes = TakesBoth g.G.FnMut (TakesAt g.F.FnMut) in
    let ask = AsksAndGives g.G.FnMut (CalledAt g.F.FnMut) in
    let both = takes-next takes ask (c.args.keep.now, c.args.gone.now) c.args.items.now.store c.loop-ix.items.store (order_of c.args.table.now) (indexes_left c.loop-ix.ix-iterator) (indexes_left c.next.new.self) c.in-Some.ix (c.loop-ix.keep, c.loop-ix.gone) c.in-Some.ensures.steps c.loop-ix.invariant.retaining
    c.item_at.result.now c.item_at.ensures in
    both.0 c.item_at.result refl

pub give_out-requires-clause-takes : goal.give_out-requires-clause-takes
give_out-requires-clause-takes g c = λ item live.
    let takes = TakesBoth g.G.FnMut (TakesAt g.F.FnMut) in
    let ask = AsksAndGives g.G.FnMut (CalledAt g.F.FnMut) in
    let both = takes-next takes ask (c.args.keep.now, c.args.gone.now) c.args.items.now.store c.loop-ix.items.store (order_of c.args.table.now) (indexes_left c.loop-ix.ix-iterator) (indexes_left c.next.new.self) c.in-Some.ix (c.loop-ix.keep, c.loop-ix.gone) c.in-Some.ensures.steps c.loop-ix.invariant.retaining
    item live in
    both.1

pub loop-ix-preserved-then-not-keep : goal.loop-ix-preserved-then-not-keep
loop-ix-preserved-then-not-keep g c =
    let takes = TakesBoth g.G.FnMut (TakesAt g.F.FnMut) in
    let ask = AsksAndGives g.G.FnMut (CalledAt g.F.FnMut) in
    let now = c.loop-ix.items.store in
    let no : c.keep.result ≡ false = search rules in
    let asked : CalledAt g.F.FnMut c.loop-ix.keep c.item_at.result.now false c.keep.new.self = called_at g.F.FnMut c.keep.ensures no in
    let given = c.give_out.ensures.given c.item_at.result.now c.item_at.ensures in
    let left = c.give_out.ensures.removed in
    let gone : c.give_out.new.items.store ≡ removed now c.in-Some.ix = ap (λ (s : SizedStore _). s.store) left in
    record {
      retaining = Retaining-removed takes ask (c.args.keep.now, c.args.gone.now) c.args.items.now.store now (order_of c.args.table.now) (indexes_left c.loop-ix.ix-iterator) (indexes_left c.next.new.self) c.in-Some.ix (c.loop-ix.keep, c.loop-ix.gone) c.in-Some.ensures.steps c.loop-ix.invariant.retaining
          c.item_at.result.now c.item_at.ensures c.give_out.new.items.store (c.keep.new.self, c.give_out.new.gone) gone (asked, given);
      slots = ap (λ (s : SizedStore _). s.capacity) left ∙ c.loop-ix.invariant.slots;
    }

pub loop-ix-preserved : goal.loop-ix-preserved
loop-ix-preserved g c =
    let takes = TakesBoth g.G.FnMut (TakesAt g.F.FnMut) in
    let ask = AsksAndGives g.G.FnMut (CalledAt g.F.FnMut) in
    let yes : c.keep.result ≡ true = search rules in
    let asked : CalledAt g.F.FnMut c.loop-ix.keep c.item_at.result.now true c.keep.new.self = called_at g.F.FnMut c.keep.ensures yes in
    record {
      retaining = Retaining-kept takes ask (c.args.keep.now, c.args.gone.now) c.args.items.now.store c.loop-ix.items.store (order_of c.args.table.now) (indexes_left c.loop-ix.ix-iterator) (indexes_left c.next.new.self) c.in-Some.ix (c.loop-ix.keep, c.loop-ix.gone) c.in-Some.ensures.steps c.loop-ix.invariant.retaining
          c.item_at.result.now c.item_at.ensures (c.keep.new.self, c.loop-ix.gone) (asked, refl);
      slots = c.loop-ix.invariant.slots;
    }
